-- Every script is well formed: what was read so far is, and each line keeps it so.
use Rattle.std.proofs.Common.{◌≡◌, ℕ, ◌+◌, ◌≤◌, lit≤, Bool, true, false, not, ◌&&◌, ◌||◌, IfOk, List, [], ◌∷◌, ◌++◌, length, is_some, nat_lt, Option, Some, None, Result, Ok, Err, refl, ap, sym, ◌∙◌, subst, arith}
use Rattle.std.specs.List.{list_all, list_any}
use Rattle.std.specs.Option.{option_and_then, option_to_list}
use Rattle.std.proofs.lemmas.Bool.{and_parts, and_from, le-leb}
use Rattle.std.proofs.lemmas.Bool.Decides.{nat_tests}
use Rattle.std.proofs.lemmas.List.{length_push}
use Rattle.std.proofs.lemmas.List.Folds.{list_all-append}
use Rattle.xod_base.specs.declared.limits.TheConstants.{MOST_SESSIONS}
use Rattle.xod_base.specs.Names.{is_session_word}
use Rattle.xod_words.proofs.CallerLemmas.{Gives, none_gives, some_gives, choice_gives, when_gives, then_gives}
use Rattle.xod_lang.specs.Lines.{lines_of}
use Rattle.xod_lang.specs.Standings.{is_outside, stands_after}
use Rattle.xod_lang.specs.Scripts.{line_of, nothing_read, sessions_of, is_between_parts, has_name, has_room_for, longer, with_session, with_form, with_statement, with_order, with_item, with_line, go_on, reading_of, script_read, script_from, script_of}
use Rattle.xod_lang.specs.Reads.{ReadsScript}
use Rattle.xod_lang.specs.WellFormed.{is_form, has_form, lines_rise, stands_through, ends_outside, is_well_formed_session, names_differ, is_item, is_well_formed}
use Rattle.xod_lang.specs.declared.script.Form.{Form}
use Rattle.xod_lang.specs.declared.script.Statement.{Statement}
use Rattle.xod_lang.specs.declared.script.SessionScript.{SessionScript}
use Rattle.xod_lang.specs.declared.script.Script.{Script}
use Rattle.xod_lang.specs.declared.script.ScriptError.{ScriptError}
use Rattle.xod_lang.specs.declared.standing.Standing.{Standing}
use Rattle.xod_lang.specs.declared.standing.Standing.TheVariants.{Outside, InTransaction, InBlock}
use Rattle.xod_lang.specs.declared.reading.Reading.{Reading}
use Rattle.xod_lang.specs.declared.line.Line.{Line}
use Rattle.xod_lang.specs.declared.line.Line.TheVariants as said
use Rattle.xod_lang.proofs.FormsGiven.{GoodLine, line_gives}

-- ---- statements with rising lines, all below one

abbrev LinesBelow : ℕ → List Statement → ℕ → Type 0
LinesBelow low [] high = low ≤ high
LinesBelow low (statement ∷ more) high = (low ≤ statement.line) × LinesBelow (statement.line + 1) more high

below_later : (statements : List Statement) (low high : ℕ) → LinesBelow low statements high → LinesBelow low statements (high + 1)
below_later [] low high below = omega (arith, below)
below_later (statement ∷ more) low high below = (below.0, below_later more (statement.line + 1) high below.1)

below_push : (statements : List Statement) (low line : ℕ) (form : Form) → LinesBelow low statements line
    → LinesBelow low (statements ++ record { line = line; form = form } ∷ []) (line + 1)
below_push [] low line form below = (below, omega arith)
below_push (statement ∷ more) low line form below = (below.0, below_push more (statement.line + 1) line form below.1)

below_rise : (statements : List Statement) (low high : ℕ) → LinesBelow low statements high → lines_rise low statements ≡ true
below_rise [] low high below = refl
below_rise (statement ∷ more) low high below = and_from _ _ (le-leb low statement.line below.0) (below_rise more (statement.line + 1) high below.1)

-- ---- where statements lead

pub stands_through-append : (first then : List Statement) (standing : Standing)
    → stands_through standing (first ++ then) ≡ option_and_then (λ next. stands_through next then) (stands_through standing first)
stands_through-append [] then standing = refl
stands_through-append (statement ∷ more) then standing =
    elim (stands_after standing statement.form) as (λ (o : Option Standing).
    option_and_then (λ next. stands_through next (more ++ then)) o ≡ option_and_then (λ next. stands_through next then) (option_and_then (λ next. stands_through next more) o))
    [ None ↦ refl | Some next ↦ stands_through-append more then next ]

-- ---- the last session

record GoodSession (line : ℕ) (standing : Standing) (session : SessionScript) : Type 0 where
  named : is_session_word session.name ≡ true
  rising : LinesBelow 1 session.statements line
  forms : list_all has_form session.statements ≡ true
  stands : stands_through Outside session.statements ≡ Some standing

-- a session that leaves nothing open
session_ends : (line : ℕ) (standing : Standing) (session : SessionScript) → is_outside standing ≡ true → GoodSession line standing session
    → is_well_formed_session session ≡ true
unfolding is_well_formed_session
session_ends line standing session out good =
    let ends : ends_outside (stands_through Outside session.statements) ≡ true = ap ends_outside good.stands ∙ out in
    and_from _ _ good.named (and_from _ _ (below_rise session.statements 1 line good.rising) (and_from _ _ good.forms ends))

-- a session with one statement more
session_goes_on : (line : ℕ) (standing next : Standing) (session : SessionScript) (form : Form) → is_form form ≡ true
    → stands_after standing form ≡ Some next → GoodSession line standing session → GoodSession (line + 1) next (longer session line form)
session_goes_on line standing next session form good_form stands good = record {
  named = good.named;
  rising = below_push session.statements 1 line form good.rising;
  forms = list_all-append has_form session.statements (record { line = line; form = form } ∷ []) ∙ and_from _ _ good.forms (and_from _ _ good_form refl);
  stands = stands_through-append session.statements (record { line = line; form = form } ∷ []) Outside
      ∙ ap (option_and_then (λ last. stands_through last (record { line = line; form = form } ∷ []))) good.stands
      ∙ ap (option_and_then (λ last. stands_through last [])) stands;
}

abbrev GoodLast : ℕ → Standing → Option SessionScript → Type 0
GoodLast line standing None = is_outside standing ≡ true
GoodLast line standing (Some session) = GoodSession line standing session

last_later : (line : ℕ) (standing : Standing) (last : Option SessionScript) → GoodLast line standing last → GoodLast (line + 1) standing last
last_later line standing None good = good
last_later line standing (Some session) good = record {
  named = good.named;
  rising = below_later session.statements 1 line good.rising;
  forms = good.forms;
  stands = good.stands;
}

last_ends : (line : ℕ) (standing : Standing) (last : Option SessionScript) → is_outside standing ≡ true → GoodLast line standing last
    → list_all is_well_formed_session (option_to_list last) ≡ true
last_ends line standing None out good = refl
last_ends line standing (Some session) out good = and_from _ _ (session_ends line standing session out good) refl

outside_is : (standing : Standing) → is_outside standing ≡ true → standing ≡ Outside
outside_is Outside out = refl
outside_is InTransaction out = absurd (cc)
outside_is InBlock out = absurd (cc)

-- ---- tests that fail

or_parts : (a b : Bool) → (a || b) ≡ false → (a ≡ false) × (b ≡ false)
or_parts true b e = absurd (cc)
or_parts false b e = (refl, e)

not_true : {b : Bool} → not b ≡ true → b ≡ false
not_true {b = true} e = absurd (cc)
not_true {b = false} e = refl

itself : {A : Type 0} (o : Option A) → Gives (λ (a : A). o ≡ Some a) o
itself None = none_gives _
itself (Some a) = some_gives _ a refl

-- ---- the names of sessions

none_named : (sessions : List SessionScript) (name : List ℕ) → list_any (has_name name) sessions ≡ false → names_differ sessions ≡ true
    → names_differ (sessions ++ record { name = name; statements = [] } ∷ []) ≡ true
none_named [] name none differ = refl
none_named (session ∷ more) name none differ =
    let parts = and_parts _ _ differ in
    let not_here = or_parts (has_name name session) _ none in
    and_from _ _
    (list_all-append (λ later. not (has_name later.name session)) more _ ∙ and_from _ _ parts.0 (and_from _ _ (ap not not_here.0) refl))
    (none_named more name not_here.1 parts.1)

-- the statements of the last session are no matter
all_last : (test : List ℕ → Bool) (sessions : List SessionScript) (last now : SessionScript) → last.name ≡ now.name
    → list_all (λ session. test session.name) (sessions ++ last ∷ []) ≡ list_all (λ session. test session.name) (sessions ++ now ∷ [])
all_last test [] last now is = ap (λ name. test name && true) is
all_last test (session ∷ more) last now is = ap (λ rest. test session.name && rest) (all_last test more last now is)

differ_last : (sessions : List SessionScript) (last now : SessionScript) → last.name ≡ now.name
    → names_differ (sessions ++ last ∷ []) ≡ names_differ (sessions ++ now ∷ [])
differ_last [] last now is = refl
differ_last (session ∷ more) last now is =
    λ i. all_last (λ name. not (has_name name session)) more last now is i && differ_last more last now is i

-- ---- what was read so far

record GoodReading (line : ℕ) (reading : Reading) : Type 0 where
  before : list_all is_well_formed_session reading.before ≡ true
  last : GoodLast line reading.standing reading.last
  differ : names_differ (sessions_of reading) ≡ true
  few : length (sessions_of reading) ≤ MOST_SESSIONS
  order : list_all (λ item. is_item item.item) reading.order ≡ true

later : (line : ℕ) (reading : Reading) → GoodReading line reading → GoodReading (line + 1) reading
later line reading good = record {
  before = good.before;
  last = last_later line reading.standing reading.last good.last;
  differ = good.differ;
  few = good.few;
  order = good.order;
}

-- all sessions, where nothing is left open
all_end : (line : ℕ) (reading : Reading) → is_outside reading.standing ≡ true → GoodReading line reading
    → list_all is_well_formed_session (sessions_of reading) ≡ true
all_end line reading out good =
    list_all-append is_well_formed_session reading.before (option_to_list reading.last)
    ∙ and_from _ _ good.before (last_ends line reading.standing reading.last out good.last)

session_gives : (line : ℕ) (reading : Reading) (name : List ℕ) → is_session_word name ≡ true → GoodReading line reading
    → Gives (GoodReading (line + 1)) (with_session reading name)
unfolding with_session
session_gives line reading name named good =
    when_gives (GoodReading (line + 1)) (is_between_parts reading && has_room_for name (sessions_of reading)) _ (λ h.
    let parts = and_parts (is_between_parts reading) _ h in
    let out = (and_parts (is_outside reading.standing) _ parts.0).0 in
    let room = and_parts (nat_lt (length (sessions_of reading)) MOST_SESSIONS) _ parts.1 in
    record {
      before = all_end line reading out good;
      last = record { named = named; rising = omega arith; forms = refl; stands = ap Some (sym (outside_is reading.standing out)) };
      differ = none_named (sessions_of reading) name (not_true room.1) good.differ;
      few = grind (arith, nat_tests, room.0, length_push (sessions_of reading) (record { name = name; statements = [] }));
      order = good.order;
    })

form_gives : (line : ℕ) (reading : Reading) (form : Form) (last : Option SessionScript) (next : Standing) → reading.last ≡ last
    → is_form form ≡ true → stands_after reading.standing form ≡ Some next → GoodReading line reading
    → Gives (GoodReading (line + 1)) (with_form reading line form last next)
form_gives line reading form None next is good_form stands good = none_gives (GoodReading (line + 1))
form_gives line reading form (Some session) next is good_form stands good =
    let here : GoodSession line reading.standing session = subst (GoodLast line reading.standing) is good.last in
    let named : sessions_of reading ≡ reading.before ++ session ∷ [] = ap (λ last. reading.before ++ option_to_list last) is in
    choice_gives (GoodReading (line + 1)) (is_some reading.order_line) None _ (none_gives (GoodReading (line + 1)))
    (some_gives (GoodReading (line + 1)) _ (record {
      before = good.before;
      last = session_goes_on line reading.standing next session form good_form stands here;
      differ = differ_last reading.before (longer session line form) session refl ∙ ap names_differ (sym named) ∙ good.differ;
      few = omega (arith, good.few, ap length named, length_push reading.before session, length_push reading.before (longer session line form));
      order = good.order;
    }))

statement_gives : (line : ℕ) (reading : Reading) (form : Form) → is_form form ≡ true → GoodReading line reading
    → Gives (GoodReading (line + 1)) (with_statement reading line form)
unfolding with_statement
statement_gives line reading form good_form good =
    then_gives (λ next. stands_after reading.standing form ≡ Some next) (GoodReading (line + 1)) (stands_after reading.standing form) _
    (itself (stands_after reading.standing form))
    (λ next stands. form_gives line reading form reading.last next refl good_form stands good)

with_line_gives : (line : ℕ) (reading : Reading) (read : Line) → GoodLine read → GoodReading line reading
    → Gives (GoodReading (line + 1)) (with_line reading line read)
unfolding with_line with_order with_item
with_line_gives line reading said.Nothing h good = some_gives (GoodReading (line + 1)) reading (later line reading good)
with_line_gives line reading (said.Session name) h good = session_gives line reading name h good
with_line_gives line reading said.Order h good =
    when_gives (GoodReading (line + 1)) (is_between_parts reading) _ (λ between. record {
      before = good.before;
      last = last_later line reading.standing reading.last good.last;
      differ = good.differ;
      few = good.few;
      order = good.order;
    })
with_line_gives line reading (said.Statement form) h good = statement_gives line reading form h good
with_line_gives line reading (said.Item item) h good =
    when_gives (GoodReading (line + 1)) (is_some reading.order_line) _ (λ ordered. record {
      before = good.before;
      last = last_later line reading.standing reading.last good.last;
      differ = good.differ;
      few = good.few;
      order = list_all-append (λ item. is_item item.item) reading.order (record { line = line; item = item } ∷ []) ∙ and_from _ _ good.order (and_from _ _ h refl);
    })

-- ---- scripts

-- what holds of a result's value, where it has one
abbrev GoodResult : ℕ → Result Reading ℕ → Type 0
GoodResult line (Ok reading) = GoodReading line reading
GoodResult line (Err bad) = Unit {0}

go_on_gives : (line : ℕ) (last : ℕ) (next : Option Reading) (more : Reading → Result Reading ℕ) → Gives (GoodReading (line + 1)) next
    → ((now : Reading) → GoodReading (line + 1) now → GoodResult last (more now)) → GoodResult last (go_on line next more)
go_on_gives line last None more good h = tt
go_on_gives line last (Some reading) more good h = h reading good.holds

reading_gives : (lines : List (List ℕ)) (line : ℕ) (reading : Reading) → GoodReading line reading → GoodResult (line + length lines) (reading_of reading line lines)
reading_gives [] line reading good = let is : line ≡ line + 0 = omega arith in subst (λ (n : ℕ). GoodReading n reading) is good
reading_gives (bytes ∷ more) line reading good =
    go_on_gives line (line + length (bytes ∷ more)) (option_and_then (with_line reading line) (line_of bytes)) (λ now. reading_of now (line + 1) more)
    (then_gives GoodLine (GoodReading (line + 1)) (line_of bytes) (with_line reading line) (line_gives bytes) (λ read h. with_line_gives line reading read h good))
    (λ now h. let is : line + 1 + length more ≡ line + length (bytes ∷ more) = omega arith in
    subst (λ (n : ℕ). GoodResult n (reading_of now (line + 1) more)) is (reading_gives more (line + 1) now h))

abbrev GoodScript : Result Script ℕ → Type 0
GoodScript (Ok script) = is_well_formed script ≡ true
GoodScript (Err line) = Unit {0}

script_good : (line past : ℕ) (reading : Reading) (out : Bool) → is_outside reading.standing ≡ out → GoodReading line reading → GoodScript (script_read past reading)
unfolding is_well_formed
script_good line past reading true is good =
    rw is (and_from _ _ (all_end line reading is good) (and_from _ _ good.differ (and_from _ _ (le-leb (length (sessions_of reading)) MOST_SESSIONS good.few) good.order)))
script_good line past reading false is good = rw is tt

script_gives : (line past : ℕ) (result : Result Reading ℕ) → GoodResult line result → GoodScript (script_from past result)
script_gives line past (Ok reading) good = script_good line past reading (is_outside reading.standing) refl good
script_gives line past (Err bad) good = tt

script_of_gives : (bytes : List ℕ) → GoodScript (script_of bytes)
unfolding script_of
script_of_gives bytes =
    script_gives (1 + length (lines_of bytes)) (length (lines_of bytes) + 1) (reading_of nothing_read 1 (lines_of bytes))
    (reading_gives (lines_of bytes) 1 nothing_read (record { before = refl; last = refl; differ = refl; few = lit≤ tt; order = refl }))

-- every script that is read is well formed
pub well_formed : (bytes : List ℕ) (result : Result Script ScriptError) → ReadsScript result (script_of bytes) → IfOk result (λ script. is_well_formed script ≡ true)
well_formed bytes (Ok script) reads = let P : Result Script ℕ → Type 0 = GoodScript in subst P reads (script_of_gives bytes)
well_formed bytes (Err error) reads = tt
