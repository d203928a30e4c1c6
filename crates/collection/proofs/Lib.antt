pub mod CallDays
pub mod NewestNotice
pub mod Law
pub mod Others
