-- What a change of the rows is, when it fits, and into which changes an act expands.
use Rattle.std.specs.Prelude.{ℕ, ◌+◌, Bool, true, false, not, ◌&&◌, ◌||◌, List, [], ◌∷◌, ◌++◌, map, length, Option, Some, None, is_some, Result, Ok, Err, nat_lt, nat_le, ◌==◌, if◌then◌else◌, slice_set, unwrap_or}
use Rattle.std.specs.List.{filter, list_all, list_any}
use Rattle.std.specs.FinMap.{FinMap, get, insert, remove, entries, keys}
use Rattle.xod_base.specs.declared.value.EntityId.{EntityId}
use Rattle.xod_base.specs.declared.value.Value.{Value}
use Rattle.xod_base.specs.declared.query.Act.{Act}
use Rattle.xod_base.specs.declared.query.Act.TheVariants as act
use Rattle.xod_base.specs.declared.query.Mode.{Mode}
use Rattle.xod_base.specs.declared.query.Mode.TheVariants.{Ordinary, ReadOnly, Exclusive}
use Rattle.xod_base.specs.declared.answer.ActAnswer.{ActAnswer}
use Rattle.xod_base.specs.declared.answer.ActAnswer.TheVariants.{Made, Changed, Same}
use Rattle.xod_base.specs.declared.answer.NameKind.TheVariants.{Kinds, Props, Links}
use Rattle.xod_base.specs.declared.answer.StmtError.{StmtError}
use Rattle.xod_base.specs.declared.answer.StmtError.TheVariants.{NoEntity, TooMany, IdsSpent, TextTooLong}
use Rattle.xod_base.specs.declared.answer.StmtError.TheVariants as refusal
use Rattle.xod_base.specs.declared.limits.TheConstants.{MOST_NAMES, LONGEST_TEXT, MOST_LOCALS}
use Rattle.xod_base.specs.Evaluation.{targets_of}
use Rattle.xod_base.specs.Values.{same_value, is_value}
use Rattle.xod_base.specs.Text.{is_text}
use Rattle.xod_base.specs.Rows.{RowsValue, Cell, LinkKey, cell_cmp, same_id, number_of, is_listed, next_of, has_name_length, text_length}
use Rattle.xod_journal.specs.declared.change.RowChange.{RowChange}
use Rattle.xod_journal.specs.declared.change.RowChange.TheVariants.{AddEntity, RemoveEntity, Prop, LinkAdd, LinkDel}

-- ---- when a change fits

-- whether a list of names can take a name: it has it, or it is not full
abbrev pub has_room : List (List ℕ) → List ℕ → Bool
has_room names name = is_listed names name || nat_lt (length names) MOST_NAMES

-- whether two values are the same, or both are absent
abbrev pub same_option : Option Value → Option Value → Bool
same_option None None = true
same_option None (Some w) = false
same_option (Some v) None = false
same_option (Some v) (Some w) = same_value v w

-- the bytes of a text that may be absent
abbrev pub option_text_length : Option Value → ℕ
option_text_length None = 0
option_text_length (Some value) = text_length value

-- the number of a type: its place in the list, and the list's end for a new one
abbrev pub kind_number : List (List ℕ) → List ℕ → ℕ
kind_number types kind = unwrap_or (number_of types kind) (length types)

-- whether a link has an entity at one of its ends
abbrev pub is_at_end : EntityId → LinkKey → Bool
is_at_end id link = same_id link.0 id || same_id link.1.1 id

-- whether a property or a link names an entity
abbrev pub is_in_use : RowsValue → EntityId → Bool
is_in_use rows id = list_any (λ cell. same_id cell.0 id) (keys rows.values) || list_any (is_at_end id) (keys rows.joined)

-- A change fits rows.
-- A new entity has its type's number and next local number. An entity that goes is there, and no property and no link
-- names it. A property is one of an entity that is there, its old value is the one it has, and its new one differs. A new
-- link joins two entities that are there and is not there itself; one that goes is there. A new name finds room in its
-- list; names and texts are within the limits.
abbrev pub fits : RowsValue → RowChange → Bool
fits rows (AddEntity id kind) =
    has_name_length kind && has_room rows.types kind && (id.kind == kind_number rows.types kind)
    && (id.local == next_of rows.nexts id.kind) && nat_lt id.local MOST_LOCALS
fits rows (RemoveEntity id) = is_some (get rows.ids id) && not (is_in_use rows id)
fits rows (Prop id name old new) =
    has_name_length name && has_room rows.props name && is_some (get rows.ids id)
    && same_option old (get rows.values (id, name)) && not (same_option old new)
    && nat_le (option_text_length new) LONGEST_TEXT
fits rows (LinkAdd source link target) =
    has_name_length link && has_room rows.links link && is_some (get rows.ids source) && is_some (get rows.ids target)
    && not (is_some (get rows.joined (source, (link, target))))
fits rows (LinkDel source link target) = has_name_length link && is_some (get rows.joined (source, (link, target)))

-- a listed name of 1 to 255 bytes
abbrev pub is_listed_name : List (List ℕ) → List ℕ → Bool
is_listed_name names name = has_name_length name && is_listed names name

-- each property and each link has a listed name of 1 to 255 bytes, as in sound rows
abbrev pub are_all_named : RowsValue → Bool
are_all_named rows =
    list_all (λ cell. is_listed_name rows.props cell.0.1) (entries rows.values)
    && list_all (λ link. is_listed_name rows.links link.0.1.0) (entries rows.joined)

-- what the types of a change say: names are texts, values are values
abbrev pub is_option_value : Option Value → Bool
is_option_value None = true
is_option_value (Some value) = is_value value

abbrev pub is_change : RowChange → Bool
is_change (AddEntity id kind) = is_text kind
is_change (RemoveEntity id) = true
is_change (Prop id name old new) = is_text name && is_option_value new
is_change (LinkAdd source link target) = is_text link
is_change (LinkDel source link target) = is_text link

-- ---- what a change makes of rows

-- the list with a name that is new at its end
abbrev pub with_name : List (List ℕ) → List ℕ → List (List ℕ)
with_name names name = if is_listed names name then names else names ++ name ∷ []

-- the next numbers with that of one type set; the type may be the first one past the list
abbrev pub with_next : List ℕ → ℕ → ℕ → List ℕ
with_next nexts kind next = if nat_lt kind (length nexts) then slice_set nexts kind next else nexts ++ next ∷ []

-- the values with one set, or with none there
abbrev pub with_value : FinMap cell_cmp Value → Cell → Option Value → FinMap cell_cmp Value
with_value values cell None = remove values cell
with_value values cell (Some value) = insert values cell value

-- the names with one that a value is set under; a value that goes lists no name
abbrev pub with_name_for : List (List ℕ) → List ℕ → Option Value → List (List ℕ)
with_name_for names name None = names
with_name_for names name (Some value) = with_name names name

-- The rows after a change.
abbrev pub applied : RowsValue → RowChange → RowsValue
applied rows (AddEntity id kind) = record rows {
  types = with_name rows.types kind;
  nexts = with_next rows.nexts id.kind (id.local + 1);
  ids = insert rows.ids id tt;
}
applied rows (RemoveEntity id) = record rows { ids = remove rows.ids id }
applied rows (Prop id name old new) = record rows {
  props = with_name_for rows.props name new;
  values = with_value rows.values (id, name) new;
}
applied rows (LinkAdd source link target) = record rows {
  links = with_name rows.links link;
  joined = insert rows.joined (source, (link, target)) tt;
}
applied rows (LinkDel source link target) = record rows { joined = remove rows.joined (source, (link, target)) }

-- the rows after a list of changes
abbrev pub all_applied : RowsValue → List RowChange → RowsValue
all_applied rows [] = rows
all_applied rows (change ∷ more) = all_applied (applied rows change) more

-- whether each change of a list fits the rows after those before it
abbrev pub all_fit : RowsValue → List RowChange → Bool
all_fit rows [] = true
all_fit rows (change ∷ more) = fits rows change && all_fit (applied rows change) more

-- ---- what an act changes

-- a new entity: the first refusal, or the change
abbrev pub new_expansion : RowsValue → List ℕ → ℕ → Result (List RowChange) StmtError
new_expansion rows kind number =
    if not (has_room rows.types kind) then Err (TooMany Kinds MOST_NAMES)
    else if not (nat_lt (next_of rows.nexts number) MOST_LOCALS) then Err (IdsSpent number)
    else Ok (AddEntity (record { kind = number; local = next_of rows.nexts number }) kind ∷ [])

-- a property set: the first refusal, or the change, which is none where the value is the same
abbrev pub set_expansion : RowsValue → EntityId → List ℕ → Value → Option Value → Result (List RowChange) StmtError
set_expansion rows id prop value old =
    if not (is_some (get rows.ids id)) then Err (NoEntity id)
    else if not (nat_le (text_length value) LONGEST_TEXT) then Err (TextTooLong (text_length value))
    else if same_option old (Some value) then Ok []
    else if not (has_room rows.props prop) then Err (TooMany Props MOST_NAMES)
    else Ok (Prop id prop old (Some value) ∷ [])

-- a property taken away: none where there is none
abbrev pub unset_changes : EntityId → List ℕ → Option Value → List RowChange
unset_changes id prop None = []
unset_changes id prop (Some value) = Prop id prop (Some value) None ∷ []

abbrev pub unset_expansion : RowsValue → EntityId → List ℕ → Result (List RowChange) StmtError
unset_expansion rows id prop =
    if not (is_some (get rows.ids id)) then Err (NoEntity id) else Ok (unset_changes id prop (get rows.values (id, prop)))

-- the changes that take links away, in their order
abbrev pub link_gone : LinkKey → RowChange
link_gone link = LinkDel link.0 link.1.0 link.1.1

-- the properties of an entity go, by rising name
abbrev pub props_gone : RowsValue → EntityId → List RowChange
props_gone rows id = map (λ cell. Prop id cell.0.1 (Some cell.1) None) (filter (λ cell. same_id cell.0.0 id) (entries rows.values))

-- the links out of an entity go, by rising name, then target
abbrev pub links_out_gone : RowsValue → EntityId → List RowChange
links_out_gone rows id = map link_gone (filter (λ link. same_id link.0 id) (keys rows.joined))

-- the links into an entity from others go, by rising source, then name
abbrev pub links_in_gone : RowsValue → EntityId → List RowChange
links_in_gone rows id = map link_gone (filter (λ link. same_id link.1.1 id && not (same_id link.0 id)) (keys rows.joined))

abbrev pub delete_expansion : RowsValue → EntityId → Result (List RowChange) StmtError
delete_expansion rows id =
    if not (is_some (get rows.ids id)) then Err (NoEntity id)
    else Ok (props_gone rows id ++ (links_out_gone rows id ++ (links_in_gone rows id ++ (RemoveEntity id ∷ []))))

-- whether an entity is linked to another one by a name
abbrev pub has_join : RowsValue → EntityId → List ℕ → EntityId → Bool
has_join rows source link target = is_some (get rows.joined (source, (link, target)))

-- a link behind changes that are made before it: none where it stands, a refusal where its name finds no room
abbrev pub link_behind : RowsValue → EntityId → List ℕ → EntityId → List RowChange → Result (List RowChange) StmtError
link_behind rows source link target before =
    if has_join rows source link target then Ok before
    else if not (has_room rows.links link) then Err (TooMany Links MOST_NAMES)
    else Ok (before ++ LinkAdd source link target ∷ [])

-- the first of two entities that is not there, or what is done where both are
abbrev pub between : RowsValue → EntityId → EntityId → Result (List RowChange) StmtError → Result (List RowChange) StmtError
between rows source target expansion =
    if not (is_some (get rows.ids source)) then Err (NoEntity source)
    else if not (is_some (get rows.ids target)) then Err (NoEntity target)
    else expansion

-- links of an entity by a name go, by rising target
abbrev pub targets_gone : EntityId → List ℕ → List EntityId → List RowChange
targets_gone source link targets = map (λ target. LinkDel source link target) targets

-- the other targets of an entity's links by a name
abbrev pub others_of : RowsValue → EntityId → List ℕ → EntityId → List EntityId
others_of rows source link target = filter (λ other. not (same_id other target)) (targets_of rows link source)

abbrev pub unlink_expansion : RowsValue → EntityId → List ℕ → EntityId → Result (List RowChange) StmtError
unlink_expansion rows source link target =
    if not (is_some (get rows.ids source)) then Err (NoEntity source)
    else if has_join rows source link target then Ok (LinkDel source link target ∷ [])
    else Ok []

abbrev pub unlink_all_expansion : RowsValue → EntityId → List ℕ → Result (List RowChange) StmtError
unlink_all_expansion rows source link =
    if not (is_some (get rows.ids source)) then Err (NoEntity source)
    else Ok (targets_gone source link (targets_of rows link source))

-- What an act changes: the changes in order, or the first refusal that applies.
abbrev pub expansion_of : RowsValue → Act → Result (List RowChange) StmtError
expansion_of rows (act.New kind) = new_expansion rows kind (kind_number rows.types kind)
expansion_of rows (act.Delete id) = delete_expansion rows id
expansion_of rows (act.Set id prop value) = set_expansion rows id prop value (get rows.values (id, prop))
expansion_of rows (act.Unset id prop) = unset_expansion rows id prop
expansion_of rows (act.Link source link target) = between rows source target (link_behind rows source link target [])
expansion_of rows (act.SetLink source link target) =
    between rows source target (link_behind rows source link target (targets_gone source link (others_of rows source link target)))
expansion_of rows (act.Unlink source link target) = unlink_expansion rows source link target
expansion_of rows (act.UnlinkAll source link) = unlink_all_expansion rows source link

-- What an act changes in a transaction of a mode: one that reads alone refuses each.
abbrev pub outcome_of : Mode → RowsValue → Act → Result (List RowChange) StmtError
outcome_of ReadOnly rows asked = Err refusal.ReadOnly
outcome_of Ordinary rows asked = expansion_of rows asked
outcome_of Exclusive rows asked = expansion_of rows asked

-- what an act is answered: the entity that it made, or whether it changed something
abbrev pub act_answer : List RowChange → ActAnswer
act_answer [] = Same
act_answer (AddEntity id kind ∷ more) = Made id
act_answer (RemoveEntity id ∷ more) = Changed
act_answer (Prop id name old new ∷ more) = Changed
act_answer (LinkAdd source link target ∷ more) = Changed
act_answer (LinkDel source link target ∷ more) = Changed

-- what an act is answered in a mode, or its refusal
abbrev pub act_outcome : Result (List RowChange) StmtError → Result ActAnswer StmtError
act_outcome (Ok changes) = Ok (act_answer changes)
act_outcome (Err error) = Err error

-- each name in an act has 1 to 255 bytes
abbrev pub has_names : Act → Bool
has_names (act.New kind) = has_name_length kind
has_names (act.Delete id) = true
has_names (act.Set id prop value) = has_name_length prop
has_names (act.Unset id prop) = has_name_length prop
has_names (act.Link source link target) = has_name_length link
has_names (act.SetLink source link target) = has_name_length link
has_names (act.Unlink source link target) = has_name_length link
has_names (act.UnlinkAll source link) = has_name_length link
