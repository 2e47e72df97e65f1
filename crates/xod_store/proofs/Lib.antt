pub mod CallerLemmas
mod Accounted
mod Booked
mod Closing
mod Flushes
mod Flushing
mod Keeping
mod Leaving
mod Newest
mod Opened
mod Rises
mod Safe
mod Stopping
mod Syncing
mod Told
mod Writing
