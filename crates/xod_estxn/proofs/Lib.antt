mod Acting
mod Changes
mod Moving
mod Showing
