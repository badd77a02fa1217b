-- What contracts cite: the worked cases.
pub mod Cases
