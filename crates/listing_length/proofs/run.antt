-- The listing of a run is no longer.
pub mod Accepted
pub mod Components
pub mod Listing
pub mod Stages
