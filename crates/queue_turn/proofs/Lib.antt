-- Laws of the slot whose turn it is, and of the record there.
mod TurnLaws
mod DueLaws
