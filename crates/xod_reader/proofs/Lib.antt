pub mod CallerLemmas
mod Fronts
mod LinkParts
mod Listing
mod NameLemmas
mod Named
mod Orders
mod SortedParts
mod Told
mod ValueParts
