-- Every image that passes the check is the image of a tree that fits: the proof of Statement's EveryImage, by topics.
pub mod Cuts
pub mod Every
pub mod Groups
pub mod Largest
pub mod Literals
pub mod Nodes
pub mod Tables
pub mod Texts
pub mod Whole
