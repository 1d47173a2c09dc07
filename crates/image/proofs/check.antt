-- Laws of the image check's parts over plain variables, which the functions' proofs cite.
mod Groups
mod Sums
mod Whole
