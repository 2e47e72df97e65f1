use Rattle.std.proofs.Common.{◌≡◌, ◌∙◌, refl, sym, subst, Option}
use Rattle.std.specs.Prelude.{IsTrue}
use Rattle.std.specs.Option.{option_copied}
use Rattle.xod_block.specs.Addresses.{number_of}
use Rattle.xod_block.specs.Records.{RecordValue}
use Rattle.xod_block.proofs.CallerLemmas.{Stays-first, Stays-then, counts-first, counts-error, counts-ok, counts-memory}
use Rattle.xod_trie.specs.Damage.{AtRoot, IsBad}
use Rattle.xod_trie.specs.Ways.{EndsWith, GoesTo}
use Rattle.xod_trie.proofs.Fetching.{reads-first}
use Rattle.xod_trie.proofs.Steps.{damaged-at, reached-child, leads-first, leads-end, leads-on}
use Rattle.xod_trie.proofs.look.find_under.Goals as goal

pub down-init : goal.down-init
down-init g c = record { stays = Stays-first; no_fault = refl; reached = λ told. AtRoot c.args.root refl; leads = λ told map. leads-first _ _ _ map }

pub returns-in_err-bytes-clause-counts : goal.returns-in_err-bytes-clause-counts
returns-in_err-bytes-clause-counts g c = counts-error _ _ c.in_err-bytes.field-0.0 _ c.from_residual.ensures.1 (counts-first _ _ _ _ c.down.invariant.no_fault c.in_err-bytes.ensures.counts)

pub returns-in-Damaged-clause-damaged_only_where_bytes_are : goal.returns-in-Damaged-clause-damaged_only_where_bytes_are
returns-in-Damaged-clause-damaged_only_where_bytes_are g c told place e =
    let read = reads-first (number_of c.down.at) c.as_slice.result.now c.in_ok-bytes.bytes c.down.invariant.stays c.in_ok-bytes.ensures.record c.as_slice.ensures told in
    let same : c.place_of.result ≡ place = cc e in
    damaged-at _ _ c.down.at place (c.down.invariant.reached told) (subst (λ (item : Option RecordValue). IsBad item (number_of c.down.at)) read c.in-Damaged.ensures) (sym same ∙ c.place_of.ensures)

pub returns-in-Ok-clause-value : goal.returns-in-Ok-clause-value
returns-in-Ok-clause-value g c told map =
    let read = reads-first (number_of c.down.at) c.as_slice.result.now c.in_ok-bytes.bytes c.down.invariant.stays c.in_ok-bytes.ensures.record c.as_slice.ensures told in
    c.in-Ok.ensures ∙ leads-end _ _ _ _ _ (c.down.invariant.leads told map) (option_copied c.in-Ends.value) (subst (λ (item : Option RecordValue). EndsWith item c.down.rest.now (option_copied c.in-Ends.value)) read c.in-Ends.ensures)

pub returns-in-Ok-clause-counts : goal.returns-in-Ok-clause-counts
returns-in-Ok-clause-counts g c = counts-ok _ _ _ (c.in_ok-bytes.ensures.counts.ok ∙ c.down.invariant.no_fault)

pub returns-in-Err-clause-counts : goal.returns-in-Err-clause-counts
returns-in-Err-clause-counts g c = counts-memory _ _ (c.in_ok-bytes.ensures.counts.ok ∙ c.down.invariant.no_fault)

pub down-preserved : goal.down-preserved
down-preserved g c =
    let goes : IsTrue (g.F.Fetch.tells c.args.fetch.now) → GoesTo (g.F.Fetch.records c.args.fetch.now (number_of c.down.at)) (number_of c.down.at) c.down.rest.now c.in-Goes.child c.in-Goes.left.now = λ told.
    let read = reads-first (number_of c.down.at) c.as_slice.result.now c.in_ok-bytes.bytes c.down.invariant.stays c.in_ok-bytes.ensures.record c.as_slice.ensures told in
    subst (λ (item : Option RecordValue). GoesTo item (number_of c.down.at) c.down.rest.now c.in-Goes.child c.in-Goes.left.now) read c.in-Goes.ensures in
    record {
      stays = Stays-then c.down.invariant.stays c.read_record.ensures.stays;
      no_fault = c.in_ok-bytes.ensures.counts.ok ∙ c.down.invariant.no_fault;
      reached = λ told. reached-child _ _ c.down.at _ _ _ (c.down.invariant.reached told) (goes told);
      leads = λ told map. leads-on _ _ _ _ _ (c.down.invariant.leads told map) _ _ (goes told);
    }
