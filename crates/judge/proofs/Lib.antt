-- Laws of a record that is judged directly, as the code does it.
mod Laws
