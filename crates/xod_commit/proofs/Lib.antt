mod Finite
mod Fitting
mod Numbers
mod Steps
mod Touches
mod Walks
