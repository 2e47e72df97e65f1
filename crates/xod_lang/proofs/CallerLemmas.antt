-- The lemma that crates above cite: where statements lead, one part after the other.
pub use Rattle.xod_lang.proofs.WellFormedLemmas.{stands_through-append}
