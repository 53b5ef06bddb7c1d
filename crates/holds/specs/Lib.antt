-- Who holds what: hand-outs, passes over the entries, transactions and registrations made and ended.
pub mod Sweep
pub mod Hand
pub mod Renew
pub mod Registry
pub mod Txns
pub mod Search
