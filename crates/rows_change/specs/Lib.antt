-- What the contract of `retain` says of the test that it is passed.
pub mod Tests
