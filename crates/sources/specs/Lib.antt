-- What contracts cite: what a source answers, and what each source means.
pub mod Waiting
pub mod PlainLogs
pub mod ChangeLogs
pub mod Wirings
pub mod Small
pub mod Laws
