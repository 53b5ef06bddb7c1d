-- Laws that the proofs of several functions cite.
pub mod HandLaws
pub mod RenewLaws
pub mod SweepLaws
pub mod SlotLaws
pub mod SearchLaws
pub mod RegistryLaws
