pub mod Timely
pub mod QuietWhenStill
pub mod NobodyIsWaitedFor
pub mod TimelyMet
pub mod PremisesMatter
pub mod RecoveriesEndInTime
