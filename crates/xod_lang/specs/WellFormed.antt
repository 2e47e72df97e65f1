-- What holds of every script that is read.
use Rattle.std.specs.Prelude.{ℕ, ◌+◌, Bool, true, false, not, ◌&&◌, List, [], ◌∷◌, length, Option, Some, None, nat_le}
use Rattle.std.specs.List.{list_all}
use Rattle.xod_base.specs.declared.limits.TheConstants.{MOST_SESSIONS}
use Rattle.xod_base.specs.Names.{is_name_word, is_session_word}
use Rattle.xod_base.specs.Values.{is_value}
use Rattle.xod_words.specs.Words.{◌>>=◌}
use Rattle.xod_words.specs.Drafts.{is_draft, is_ent}
use Rattle.xod_lang.specs.Scripts.{has_name}
use Rattle.xod_lang.specs.Standings.{is_outside, stands_after}
use Rattle.xod_lang.specs.Statements.{are_tries}
use Rattle.xod_lang.specs.declared.script.Form.{Form}
use Rattle.xod_lang.specs.declared.script.Form.TheVariants as form
use Rattle.xod_lang.specs.declared.script.Statement.{Statement}
use Rattle.xod_lang.specs.declared.script.SessionScript.{SessionScript}
use Rattle.xod_lang.specs.declared.script.Item.{Item}
use Rattle.xod_lang.specs.declared.script.Item.TheVariants.{Turn}
use Rattle.xod_lang.specs.declared.script.Script.{Script}
use Rattle.xod_lang.specs.declared.standing.Standing.{Standing}
use Rattle.xod_lang.specs.declared.standing.Standing.TheVariants.{Outside}

-- ---- statements

-- a form whose names are words, and whose ids, values, numbers and queries are the language's
abbrev pub is_form : Form → Bool
is_form (form.Do tries) = are_tries tries
is_form (form.New kind var) = is_name_word kind && is_session_word var
is_form (form.Delete ent) = is_ent ent
is_form (form.Set ent prop value) = is_ent ent && (is_name_word prop && is_value value)
is_form (form.Unset ent prop) = is_ent ent && is_name_word prop
is_form (form.Link source link target) = is_ent source && (is_name_word link && is_ent target)
is_form (form.SetLink source link target) = is_ent source && (is_name_word link && is_ent target)
is_form (form.Unlink source link target) = is_ent source && (is_name_word link && is_ent target)
is_form (form.UnlinkAll source link) = is_ent source && is_name_word link
is_form (form.Show ent) = is_ent ent
is_form (form.Query draft) = is_draft draft
is_form (form.Count draft) = is_draft draft
is_form shared = true

abbrev pub has_form : Statement → Bool
has_form statement = is_form statement.form

-- each line is above the one before, and the first is not below `low`
abbrev pub lines_rise : ℕ → List Statement → Bool
lines_rise low [] = true
lines_rise low (statement ∷ more) = nat_le low statement.line && lines_rise (statement.line + 1) more

-- Where a session stands after statements; none where one of them is not allowed.
abbrev pub stands_through : Standing → List Statement → Option Standing
stands_through standing [] = Some standing
stands_through standing (statement ∷ more) = stands_after standing statement.form >>= λ next. stands_through next more

-- all were allowed, and nothing is left open
abbrev pub ends_outside : Option Standing → Bool
ends_outside None = false
ends_outside (Some standing) = is_outside standing

-- A session with a name, whose statements have rising lines and their forms, each allowed where it stands, and which
-- leaves nothing open.
unfoldable pub is_well_formed_session : SessionScript → Bool
is_well_formed_session session =
    is_session_word session.name
    && (lines_rise 1 session.statements
    && (list_all has_form session.statements && ends_outside (stands_through Outside session.statements)))

-- ---- scripts

-- no session has the name of a later one
abbrev pub names_differ : List SessionScript → Bool
names_differ [] = true
names_differ (session ∷ more) = list_all (λ later. not (has_name later.name session)) more && names_differ more

abbrev pub is_item : Item → Bool
is_item (Turn session step) = is_session_word session

-- Sessions that are not too many and have different names, and an order that names sessions by words.
unfoldable pub is_well_formed : Script → Bool
is_well_formed script =
    list_all is_well_formed_session script.sessions
    && (names_differ script.sessions
    && (nat_le (length script.sessions) MOST_SESSIONS && list_all (λ item. is_item item.item) script.order))
