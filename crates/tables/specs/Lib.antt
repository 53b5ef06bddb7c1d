-- Tables of rows of words, and the four of a space.
pub mod Table
pub mod Tables
pub mod Rows
