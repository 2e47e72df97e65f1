use Rattle.std.proofs.Common.{refl, sym}
use Rattle.xod_log.proofs.CallerLemmas.{files_apart, put_is_there}
use Rattle.xod_device_tests.proofs.HandMade.{absent, absent_beside, body_there, pair_made, stands_made}
use Rattle.xod_device_tests.proofs.tests.log.last_but_one.Goals as goal

pub create-requires : goal.create-requires
create-requires c = record { absent = λ told. absent _ 8589934588 c.requires }

pub create-requires-2 : goal.create-requires-2
create-requires-2 c = record { absent = λ told. absent_beside _ _ 8589934588 8589934589 c.requires (λ e. files_apart 4294967294 (sym e)) (c.in_ok-create.ensures.created refl) }

pub append-requires : goal.append-requires
append-requires c = record { exists = λ told. put_is_there _ _ 8589934589 _ (c.in_ok-create-2.ensures.created refl) }

pub sync-requires : goal.sync-requires
sync-requires c = record { exists = λ told. put_is_there _ _ 8589934589 _ (c.in_ok-append.ensures.appended refl) }

pub sync-requires-2 : goal.sync-requires-2
sync-requires-2 c = record {
  exists = λ told. body_there 4294967294 _ _ (pair_made 4294967294 _ _ _ _ (c.in_ok-create.ensures.created refl) (c.in_ok-create-2.ensures.created refl) (c.in_ok-append.ensures.appended refl)) (c.sync.ensures.same refl);
}

pub returns : goal.returns
returns c =
    rw c.resume.ensures (stands_made 4294967294 0 _ _ _ _ _ _ _
    (pair_made 4294967294 _ _ _ _ (c.in_ok-create.ensures.created refl) (c.in_ok-create-2.ensures.created refl) (c.in_ok-append.ensures.appended refl))
    (c.sync.ensures.same refl) (c.sync-2.ensures.same refl) (c.in_ok-sync.ensures.durable refl) (c.sync-2.ensures.crash refl) (c.in_ok-sync-2.ensures.durable refl))
