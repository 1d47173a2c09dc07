-- What an accepted run's bytes say is what its answer says, whatever the text starts: stated in Statement, proved beside it.
pub mod Blocks
pub mod Components
pub mod Erase
pub mod Facts
pub mod Fields
pub mod Items
pub mod Placement
pub mod ReadAnswer
pub mod Start
pub mod Statement
pub mod Texts
pub mod Trees
pub mod Witness
