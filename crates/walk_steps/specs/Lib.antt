pub mod RecoveriesAreMet
pub mod IntervalsMet
pub mod Within
pub mod Says
pub mod RequestsMet
