use Rattle.std.proofs.Common.{Ok, sym, ap, ◌∙◌}
use Rattle.xod_keys.specs.Pieces.{value_read}
use Rattle.xod_keys.proofs.CallerLemmas.{reads-there, broken-there}
use Rattle.xod_props.proofs.reading.value_of.Goals as goal

pub returns-in-None-clause-reads : goal.returns-in-None-clause-reads
returns-in-None-clause-reads g c = broken-there value_read c.get.ensures.answers c.property_key-key.ensures (c.in_ok-bytes.was ∙ ap Ok c.in-Some.is)
    _ (ap value_read (sym c.as_slice.ensures) ∙ sym c.in_ok-read_value.ensures ∙ c.in-None.is)

pub returns-clause-reads : goal.returns-clause-reads
returns-clause-reads g c = reads-there value_read c.get.ensures.answers c.property_key-key.ensures (c.in_ok-bytes.was ∙ ap Ok c.in-Some.is)
    c.in-Some-2.value (ap value_read (sym c.as_slice.ensures) ∙ sym c.in_ok-read_value.ensures ∙ c.in-Some-2.is)
