-- The text of each answer, and its line.
use Rattle.std.specs.Prelude.{ℕ, Bool, true, false, List, [], ◌∷◌, ◌++◌, codes}
use Rattle.std.specs.List.{flat_map}
use Rattle.std.specs.Fmt.{decimal}
use Rattle.xod_base.specs.declared.causes.Cause.{Cause}
use Rattle.xod_base.specs.declared.causes.Cause.TheVariants as cause
use Rattle.xod_base.specs.declared.value.EntityId.{EntityId}
use Rattle.xod_base.specs.declared.value.Value.{Value}
use Rattle.xod_base.specs.declared.answer.NameKind.{NameKind}
use Rattle.xod_base.specs.declared.answer.NameKind.TheVariants.{Kinds, Props, Links}
use Rattle.xod_base.specs.declared.answer.StmtError.{StmtError}
use Rattle.xod_base.specs.declared.answer.StmtError.TheVariants as refusal
use Rattle.xod_base.specs.declared.answer.ActAnswer.{ActAnswer}
use Rattle.xod_base.specs.declared.answer.ActAnswer.TheVariants.{Made, Changed, Same}
use Rattle.xod_base.specs.declared.answer.FlushAnswer.{FlushAnswer}
use Rattle.xod_base.specs.declared.answer.FlushAnswer.TheVariants.{Nothing, Committed, Conflict}
use Rattle.xod_base.specs.declared.answer.Shown.{Shown}
use Rattle.xod_base.specs.declared.answer.Reply.{Reply}
use Rattle.xod_base.specs.declared.answer.Reply.TheVariants as reply
use Rattle.xod_base.specs.QueryTexts.{id_text, value_text}

-- the word of a cause, in a stop's line and in an order
abbrev pub cause_text : Cause → List ℕ
cause_text cause.Device = codes "device"
cause_text cause.Broken = codes "broken"
cause_text cause.Damaged = codes "damaged"
cause_text cause.Spent = codes "spent"
cause_text cause.Memory = codes "memory"

abbrev pub kind_text : NameKind → List ℕ
kind_text Kinds = codes "types"
kind_text Props = codes "properties"
kind_text Links = codes "links"

-- A refusal. Device, damaged bytes and memory refuse no statement by themselves: they stop the session.
abbrev pub refusal_text : StmtError → List ℕ
refusal_text (refusal.NoEntity id) = codes "refused no entity " ++ id_text id
refusal_text refusal.ReadOnly = codes "refused read only"
refusal_text (refusal.TooMany kind limit) = codes "refused too many " ++ (kind_text kind ++ (32 ∷ decimal limit))
refusal_text (refusal.IdsSpent kind) = codes "refused ids spent " ++ decimal kind
refusal_text (refusal.TextTooLong len) = codes "refused text too long " ++ decimal len
refusal_text refusal.Device = codes "stop device"
refusal_text (refusal.Damaged place) = codes "stop damaged"
refusal_text refusal.Memory = codes "stop memory"

-- what an act did: the id that it made, or whether it changed something
abbrev pub act_text : ActAnswer → List ℕ
act_text (Made id) = id_text id
act_text Changed = codes "ok"
act_text Same = codes "same"

-- what a flush did; a fault after a commit is not printed here, but in the line of the stop that it causes
abbrev pub flush_text : FlushAnswer → List ℕ
flush_text Nothing = codes "nothing"
flush_text (Committed version fault) = codes "committed " ++ decimal version
flush_text (Conflict base now) = codes "conflict base " ++ (decimal base ++ (codes " now " ++ decimal now))

-- each id after a space
abbrev pub ids_text : List EntityId → List ℕ
ids_text ids = flat_map (λ id. 32 ∷ id_text id) ids

-- a property after a space, as `NAME=VALUE`
abbrev pub prop_text : List ℕ × Value → List ℕ
prop_text prop = 32 ∷ (prop.0 ++ (61 ∷ value_text prop.1))

-- a link after a space, as `LINK>ID`
abbrev pub link_text : List ℕ × EntityId → List ℕ
link_text link = 32 ∷ (link.0 ++ (62 ∷ id_text link.1))

-- an entity: its id, its type, its properties and its links, in the order in which they are shown
abbrev pub shown_text : Shown → List ℕ
shown_text shown = id_text shown.id ++ (32 ∷ (shown.kind ++ (flat_map prop_text shown.props ++ flat_map link_text shown.links)))

-- The text of an answer.
abbrev pub reply_text : Reply → List ℕ
reply_text (reply.At commit) = codes "at " ++ decimal commit
reply_text (reply.Flushed answer) = flush_text answer
reply_text reply.Ended = codes "ended"
reply_text reply.Synced = codes "synced"
reply_text (reply.Acted answer) = act_text answer
reply_text (reply.Shown shown) = shown_text shown
reply_text (reply.Ids ids) = codes "ids" ++ ids_text ids
reply_text (reply.Count number) = codes "count " ++ decimal number
reply_text (reply.Refused error) = refusal_text error
reply_text (reply.Unset name) = codes "refused unset $" ++ name
reply_text (reply.Stop why) = codes "stop " ++ cause_text why

-- The line of an answer: the number of its statement's line, and its text.
abbrev pub answer_line : ℕ → Reply → List ℕ
answer_line line answer = decimal line ++ (58 ∷ 32 ∷ (reply_text answer ++ (10 ∷ [])))

-- whether an answer is that of a shared step
abbrev pub is_step_reply : Reply → Bool
is_step_reply (reply.At commit) = true
is_step_reply (reply.Flushed answer) = true
is_step_reply reply.Ended = true
is_step_reply reply.Synced = true
is_step_reply (reply.Acted answer) = false
is_step_reply (reply.Shown shown) = false
is_step_reply (reply.Ids ids) = false
is_step_reply (reply.Count number) = false
is_step_reply (reply.Refused error) = false
is_step_reply (reply.Unset name) = false
is_step_reply (reply.Stop why) = true
