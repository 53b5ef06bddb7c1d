-- What the printer writes, by definitions that its contracts cite.
pub mod Text
