-- That hints stay reliable.
pub mod HintLaws
pub mod IdleLaws
pub mod EndsLaws
pub mod ReliableLaws
