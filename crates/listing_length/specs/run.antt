-- How long the listing of a run can be.
pub mod Components
pub mod Items
pub mod Listing
pub mod Ranges
pub mod Reading
pub mod Records
pub mod Stages
pub mod Witness
