use Rattle.std.proofs.Common.{◌≡◌, List, ℕ, Option, [], ◌∷◌, ◌++◌, Err, ◌∙◌, sym, ap, subst}
use Rattle.std.specs.Prelude.{IfSome}
use Rattle.xod_base.specs.declared.causes.ReadError.{ReadError}
use Rattle.xod_block.specs.Reading.{record_in}
use Rattle.xod_cursor.specs.declared.enter.Entered.{Entered}
use Rattle.xod_cursor.specs.Cursors.{IsEntered, StandsEntered, entries_at}
use Rattle.xod_cursor.proofs.Damaging.{no_branch-damaged}
use Rattle.xod_cursor.proofs.Rungs.{link-there, standing-names, standing-child}
use Rattle.xod_cursor.proofs.Telling.{same_error}
use Rattle.xod_cursor.proofs.enter.enter_next.Goals as goal

pub returns-in_err-bytes-clause-damaged_only_where_bytes_are : goal.returns-in_err-bytes-clause-damaged_only_where_bytes_are
returns-in_err-bytes-clause-damaged_only_where_bytes_are g c told root stands place e =
    let records = g.F.Fetch.records c.args.fetch.now in
    let error = same_error c.from_residual-in_err-bytes.result c.in_err-bytes.field-0.0 place c.from_residual-in_err-bytes.ensures.1 e in
    c.in_err-bytes.ensures.damaged_only_where_bytes_are told root stands.reached (standing-names records root c.args.rung.now stands _ c.link_at-byte.result c.as_slice.ensures c.link_at-byte.ensures) place (ap (λ (x : ReadError). Err x) error)

pub returns-in-None-clause-damaged_only_where_bytes_are : goal.returns-in-None-clause-damaged_only_where_bytes_are
returns-in-None-clause-damaged_only_where_bytes_are g c told root stands place e =
    let records = g.F.Fetch.records c.args.fetch.now in
    let child = c.link_at-byte.result.1 in
    let read = ap record_in c.as_slice-3.ensures ∙ c.in_ok-bytes.ensures.«record» told in
    let none = subst (IsEntered records c.in_ok-front.front child) c.in-None.is (c.in_ok-entered_at.ensures.entries records read) in
    let same : c.place_of.result ≡ place = cc e in
    no_branch-damaged records root child place (standing-child records root c.args.rung.now stands _ c.link_at-byte.result c.as_slice.ensures c.link_at-byte.ensures) none (sym same ∙ c.place_of.ensures)

pub returns-clause-next : goal.returns-clause-next
returns-clause-next g c told =
    let records = g.F.Fetch.records c.args.fetch.now in
    let child = c.link_at-byte.result in
    let read = ap record_in c.as_slice-3.ensures ∙ c.in_ok-bytes.ensures.«record» told in
    let entries = subst (IsEntered records c.in_ok-front.front child.1) c.in-Some.is (c.in_ok-entered_at.ensures.entries records read) in
    record {
      child = child;
      next = record { there = link-there c.args.rung.now _ child c.as_slice.ensures c.link_at-byte.ensures; lower = c.in_ok-bytes.ensures.below };
      entries = entries ∙ ap (λ (front : List ℕ). entries_at records front child.1) (c.in_ok-front.ensures ∙ ap (λ (front : List ℕ). front ++ child.0 ∷ []) c.as_slice-2.ensures);
    }

pub returns-clause-stands : goal.returns-clause-stands
returns-clause-stands g c told root stands =
    let records = g.F.Fetch.records c.args.fetch.now in
    let read = ap record_in c.as_slice-3.ensures ∙ c.in_ok-bytes.ensures.«record» told in
    let reached = standing-child records root c.args.rung.now stands _ c.link_at-byte.result c.as_slice.ensures c.link_at-byte.ensures in
    subst (λ (found : Option Entered). IfSome found (StandsEntered records root)) c.in-Some.is (c.in_ok-entered_at.ensures.stands records root read reached)
