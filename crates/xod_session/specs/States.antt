-- What a session knows: where it is in its script, its variables, what it has said, and its open transaction.
use Rattle.std.specs.Prelude.{ℕ, Bool, false, List, [], ◌++◌, ◌∷◌, Option, None}
use Rattle.std.specs.FinMap.{empty}
use Rattle.xod_base.specs.declared.answer.Reply.{Reply}
use Rattle.xod_base.specs.declared.query.Query.{Query}
use Rattle.xod_lang.specs.declared.script.Statement.{Statement}
use Rattle.xod_journal.specs.Txns.{OpenTxn}
use Rattle.xod_session.specs.declared.course.Due.{Due}
use Rattle.xod_session.specs.declared.course.Due.TheVariants.{Fresh}
use Rattle.xod_session.specs.Variables.{Variables}

-- the answer of a statement, of a shared step or of a stop, and the number of its statement's line
pub record Answered : Type 0 where
  pub line : ℕ
  pub reply : Reply

-- What a session has said: its variables, its answers, how many queries were answered from the cache, and those that
-- were not, in their order.
pub record Said : Type 0 where
  pub variables : Variables
  pub replies : List Answered
  pub hits : ℕ
  pub missed : List Query

-- a `do` block that is being tried: the tries that are left after this one, and the statements behind its `do`
pub record Block : Type 0 where
  pub left : ℕ
  pub body : List Statement

-- Where a session is: the statements still to come, what is due of the first of them, the block that it is in, the line
-- of a flush that has just committed, and whether it has stopped.
pub record Place : Type 0 where
  pub rest : List Statement
  pub due : Due
  pub block : Option Block
  pub just : Option ℕ
  pub stopped : Bool

pub record SessionState : Type 0 where
  pub place : Place
  pub said : Said
  pub txn : Option OpenTxn

-- a session at the start of its script
abbrev pub opened : List Statement → SessionState
opened script = record {
  place = record { rest = script; due = Fresh; block = None; just = None; stopped = false };
  said = record { variables = empty; replies = []; hits = 0; missed = [] };
  txn = None;
}

-- one answer more
abbrev pub replied : Said → ℕ → Reply → Said
replied said line answer = record said { replies = said.replies ++ (record { line = line; reply = answer }) ∷ [] }
