-- Laws that the proofs of the functions cite.
pub mod DigitLaws
pub mod TextLaws
pub mod LineLaws
pub mod RecordText
