-- All that is read of properties.
use Rattle.xod_dup.specs.Laws.{JoinedKeysRiseAsPairs}
use Rattle.xod_tables.proofs.CallerLemmas.{facts, sound_answer}
use Rattle.xod_readings.specs.Laws.{PropsOfRowsAreRead}
use Rattle.xod_readings.proofs.Props.{all_are_read, value_is_read}
use Rattle.xod_readings.proofs.PropsBetween.{between_are_read}

pub props_are_read : JoinedKeysRiseAsPairs → PropsOfRowsAreRead
props_are_read joins rows h =
    let f = facts rows h in
    let a = sound_answer rows h in
    record {
      value = value_is_read rows f a;
      all = λ id s. all_are_read rows id f a s;
      between = between_are_read joins rows f a;
    }
