-- The definition of a run, from the bottom up: Prelude, Basics, Characters, Limits, Refusals, Numbers; the image (Image, Check, Tree); the stages (Text,
-- Ranges, Component, Concatenation, Overall); Answer, Run, Listing;
-- tokens to an image (TokenStream, Tokens). Examples, Readings, Worked, Areas hold it to document 01's examples, Defaults and
-- TokenExamples to document 02's L1 and L2.
pub mod Answer
pub mod Areas
pub mod Basics
pub mod Characters
pub mod Check
pub mod Component
pub mod Compute
pub mod Concatenation
pub mod Defaults
pub mod Examples
pub mod Image
pub mod Limits
pub mod Listing
pub mod Numbers
pub mod Overall
pub mod Prelude
pub mod Ranges
pub mod Readings
pub mod Refusals
pub mod Run
pub mod Text
pub mod TokenExamples
pub mod TokenStream
pub mod Tokens
pub mod Tree
pub mod Worked
