-- A waiting record, read and written (RecordRead); the places, and whose turn it is (PlacesRead); the slots of a queue (SlotsRead).
-- A terminal of bytes is sound exactly where it is the written form of a sound typed one (QueueExact).
-- What a judged record leaves of the queue (AfterRead). The theorems: one hand-in, take or record judged at once (Transitions), and a run of them (Steps).
pub mod RecordRead
pub mod PlacesRead
pub mod SlotsRead
pub mod QueueExact
pub mod AfterRead
pub mod Transitions
pub mod Steps
