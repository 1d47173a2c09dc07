-- The whole run: what it answers, and what the lent area holds afterwards.
pub mod Run
