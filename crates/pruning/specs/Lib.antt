-- What contracts cite: the rule of a draft, what its calls tell, and how the sets of states are computed.
pub mod Drafts
pub mod Computed
