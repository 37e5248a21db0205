-- Laws of the record whose turn it is, as the code takes it.
mod Laws
