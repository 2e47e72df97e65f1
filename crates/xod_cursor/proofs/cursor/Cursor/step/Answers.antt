use Rattle.std.proofs.Common.{◌≡◌, Option, Some, None, Err, refl, sym, ◌∙◌, ap, subst, List}
use Rattle.xod_base.specs.declared.causes.ReadError.{ReadError}
use Rattle.xod_block.specs.Maps.{RecordsAt}
use Rattle.xod_block.proofs.CallerLemmas.{Stays-then}
use Rattle.xod_base.specs.declared.pair.Pair.{Pair}
use Rattle.xod_trie.specs.Damage.{IsDamaged}
use Rattle.xod_cursor.specs.declared.rung.Rung.{Rung}
use Rattle.xod_cursor.specs.Cursors.{IsNext, StandsAt, StandsEntered, StandsOn, behind_first, behind_pair, path_entries}
use Rattle.xod_cursor.proofs.Descending.{last-there, standing-last, down-own, down-below}
use Rattle.xod_cursor.proofs.Telling.{told-first, same_error}
use Rattle.xod_cursor.proofs.cursor.Cursor.step.Goals as goal

pub returns-in_err-pair-clause-damaged_only_where_bytes_are : goal.returns-in_err-pair-clause-damaged_only_where_bytes_are
returns-in_err-pair-clause-damaged_only_where_bytes_are g c told root on place e =
    let records = g.F.Fetch.records c.args.fetch.now in
    let path = c.down.self.path.items in
    let rung = c.in-Some-last.rung.now in
    let stands = standing-last records root path rung (c.down.invariant.stands told root on) (last-there path c.deref.result.now rung c.deref.ensures.value c.in-Some-last.ensures.value) in
    let error = same_error c.from_residual.result c.in_err-pair.field-0.0 place c.from_residual.ensures.1 e in
    told-first (λ (r : RecordsAt). StandsAt r root rung → IsDamaged r root place) c.down.invariant.stays
    (λ told stands. c.in_err-pair.ensures.damaged_only_where_bytes_are told root stands place (ap (λ (x : ReadError). Err x) error)) told stands

pub returns-in_err-move_down-in-Own-clause-stands : goal.returns-in_err-move_down-in-Own-clause-stands
returns-in_err-move_down-in-Own-clause-stands g c told root on =
    let records = g.F.Fetch.records c.args.fetch.now in
    subst (StandsOn records root) (sym {A = List Rung} c.in_err-move_down-in-Own.ensures.err) (c.down.invariant.stands told root on)

pub returns-in_err-move_down-in-Below-clause-stands : goal.returns-in_err-move_down-in-Below-clause-stands
returns-in_err-move_down-in-Below-clause-stands g c told root on =
    let records = g.F.Fetch.records c.args.fetch.now in
    subst (StandsOn records root) (sym {A = List Rung} c.in_err-move_down-in-Below.ensures.err) (c.down.invariant.stands told root on)

pub returns-in-Own-clause-steps : goal.returns-in-Own-clause-steps
returns-in-Own-clause-steps g c told =
    let records = g.F.Fetch.records c.args.fetch.now in
    let path = c.down.self.path.items in
    let rung = c.in-Some-last.rung.now in
    let last = last-there path c.deref.result.now rung c.deref.ensures.value c.in-Some-last.ensures.value in
    let next = told-first (λ (r : RecordsAt). IsNext r rung c.in_ok-pair.field-0) c.down.invariant.stays c.in_ok-pair.ensures.next told in
    let first : c.args.self.now.first ≡ None = sym c.in_default.ensures.value in
    ap (λ (o : Option Pair). behind_first o (path_entries records c.args.self.now.path.items)) first
    ∙ sym (c.down.invariant.path told)
    ∙ down-own records path c.move_down.new.path.items rung c.in_ok-pair.field-0 next c.in-Own.left (λ child is. c.in_ok-move_down-in-Own.ensures.moves records rung child last is) c.in-Own.pair c.in-Own.is
    ∙ ap (λ (o : Option Pair). behind_pair c.in-Own.pair (behind_first o (path_entries records c.move_down.new.path.items))) (sym c.down.invariant.first)

pub returns-in-Own-clause-stands : goal.returns-in-Own-clause-stands
returns-in-Own-clause-stands g c told root on =
    let records = g.F.Fetch.records c.args.fetch.now in
    let path = c.down.self.path.items in
    let rung = c.in-Some-last.rung.now in
    let on_now = c.down.invariant.stands told root on in
    let stands = standing-last records root path rung on_now (last-there path c.deref.result.now rung c.deref.ensures.value c.in-Some-last.ensures.value) in
    let whole = told-first (λ (r : RecordsAt). StandsAt r root rung → StandsEntered r root c.in_ok-pair.field-0) c.down.invariant.stays (λ told. c.in_ok-pair.ensures.stands told root) told stands in
    c.in_ok-move_down-in-Own.ensures.stands records root on_now (subst (StandsEntered records root) c.in-Own.is whole)

pub down-preserved : goal.down-preserved
down-preserved g c =
    let records = g.F.Fetch.records c.args.fetch.now in
    let path = c.down.self.path.items in
    let rung = c.in-Some-last.rung.now in
    let last = last-there path c.deref.result.now rung c.deref.ensures.value c.in-Some-last.ensures.value in
    record {
      stays = Stays-then c.down.invariant.stays c.enter_next.ensures.stays;
      no_fault = c.in_ok-pair.ensures.counts.ok ∙ c.down.invariant.no_fault;
      first = c.down.invariant.first;
      path = λ told.
          let next = told-first (λ (r : RecordsAt). IsNext r rung c.in_ok-pair.field-0) c.down.invariant.stays c.in_ok-pair.ensures.next told in
          down-below records path c.move_down-in-Below.new.path.items rung c.in_ok-pair.field-0 next (Some c.in-Below.rung) (λ child is. c.in_ok-move_down-in-Below.ensures.moves records rung child last is) c.in-Below.rung c.in-Below.is refl
          ∙ c.down.invariant.path told;
      stands = λ told root on.
          let on_now = c.down.invariant.stands told root on in
          let whole = told-first (λ (r : RecordsAt). StandsAt r root rung → StandsEntered r root c.in_ok-pair.field-0) c.down.invariant.stays (λ told. c.in_ok-pair.ensures.stands told root) told (standing-last records root path rung on_now last) in
          c.in_ok-move_down-in-Below.ensures.stands records root on_now (subst (StandsEntered records root) c.in-Below.is whole);
    }
