-- Words of the contracts on several links together.
pub mod ByLink
