-- One step of a walk, by what is left on the way up.
use Rattle.std.proofs.Common.{◌≡◌, ℕ, Bool, List, [], ◌∷◌, ◌++◌, reverse, Option, Some, None, refl, sym, ap, ◌∙◌, subst, Result, Ok, Err}
use base.Fml.{GName}
use Rattle.std.specs.Result.{IsErrAnd}
use Rattle.std.proofs.lemmas.List.{reverse-append}
use Rattle.xod_base.specs.declared.causes.ReadError.{ReadError}
use Rattle.std.specs.Prelude.{IsTrue}
use Rattle.xod_block.specs.Fetches.{Stays}
use Rattle.xod_base.specs.declared.causes.Place.{Place}
use Rattle.xod_block.specs.declared.address.Address.{Address}
use Rattle.xod_block.specs.Maps.{RecordsAt}
use Rattle.xod_recover.specs.declared.walk.Frame.{Frame}
use Rattle.xod_recover.specs.Frames.{Enters, bad_below}
use Rattle.xod_recover.specs.Walks.{or_else, first_bad, bad_under}
use Rattle.xod_recover.specs.Ways.{Advances, IsLeft, LeadsUp, left_of}

or_else-none : (o : Option Place) → or_else o None ≡ o
or_else-none None = refl
or_else-none (Some place) = refl

module _ (records : RecordsAt) (has_body : ℕ → Bool) where
  -- a place that was found is the one of all
  found-up : (total : Option Place) (place : Place) (frames : List Frame) → LeadsUp records has_body total (Some place) frames → total ≡ Some place
  found-up total place [] up = up
  found-up total place (frame ∷ frames) up = found-up total place frames (subst (λ (o : Option Place). LeadsUp records has_body total o frames) up.0 up.1)

  -- the next child of a frame has what is first
  next-left : (found : Option Place) (old new : Frame) (child : Address) → Advances old new child → bad_under records has_body old.at child ≡ found → IsLeft records has_body None old → IsLeft records has_body found new
  next-left found old new child a is left =
      ap (bad_below records has_body) a.at_same
      ∙ left
      ∙ ap (first_bad (bad_under records has_body old.at)) a.left
      ∙ ap (λ (o : Option Place). or_else o (first_bad (bad_under records has_body old.at) (left_of new))) is
      ∙ ap (λ (at : Address). or_else found (first_bad (bad_under records has_body at) (left_of new))) (sym a.at_same)

  module _ (total : Option Place) (old new : Frame) (child : Address) (way : List Frame) (a : Advances old new child) (up : LeadsUp records has_body total None (old ∷ way)) where
    -- a bad child is the end
    pub up-bad : (place : Place) → bad_under records has_body new.at child ≡ Some place → total ≡ Some place
    up-bad place bad =
        let is : bad_under records has_body old.at child ≡ Some place = ap (λ (at : Address). bad_under records has_body at child) (sym a.at_same) ∙ bad in
        found-up total place (new ∷ way) (next-left (Some place) old new child a is up.0, subst (λ (at : Address). LeadsUp records has_body total (bad_below records has_body at) way) (sym a.at_same) up.1)

    -- below a child that was walked nothing is bad
    pub up-past : bad_under records has_body new.at child ≡ None → LeadsUp records has_body total None (new ∷ way)
    up-past none =
        let is : bad_under records has_body old.at child ≡ None = ap (λ (at : Address). bad_under records has_body at child) (sym a.at_same) ∙ none in
        (next-left None old new child a is up.0, subst (λ (at : Address). LeadsUp records has_body total (bad_below records has_body at) way) (sym a.at_same) up.1)

    -- a child that is entered comes on top
    pub up-down : (inner : Frame) → inner.at ≡ child → Enters records has_body new.at child (left_of inner) → LeadsUp records has_body total None (inner ∷ new ∷ way)
    up-down inner here enters =
        let is : bad_under records has_body old.at child ≡ bad_below records has_body inner.at = ap (λ (at : Address). bad_under records has_body at child) (sym a.at_same) ∙ enters.under ∙ ap (bad_below records has_body) (sym here) in (
          ap (bad_below records has_body) here ∙ enters.below ∙ ap (λ (at : Address). first_bad (bad_under records has_body at) (left_of inner)) (sym here),
          (next-left (bad_below records has_body inner.at) old new child a is up.0, subst (λ (at : Address). LeadsUp records has_body total (bad_below records has_body at) way) (sym a.at_same) up.1),
        )

  module _ (total : Option Place) (top : Frame) (way : List Frame) (end : left_of top ≡ []) (up : LeadsUp records has_body total None (top ∷ way)) where
    -- where no child is left, nothing below is bad
    pub up-clean : bad_below records has_body top.at ≡ None
    up-clean = up.0 ∙ ap (first_bad (bad_under records has_body top.at)) end

    pub up-back : LeadsUp records has_body total None way
    up-back = subst (λ (o : Option Place). LeadsUp records has_body total o way) up-clean up.1

  -- the same with the way as it is kept: the last frame on top
  pub up-noted : (total : Option Place) (top : Frame) (at : Address) (way : List Frame) → left_of top ≡ [] → at ≡ top.at → LeadsUp records has_body total None (top ∷ way) → bad_below records has_body at ≡ None
  up-noted total top at way end same up = ap (bad_below records has_body) same ∙ up-clean total top way end up

  pub up-popped : (total : Option Place) (top frame : Frame) (way shorter : List Frame) → way ≡ shorter ++ frame ∷ [] → left_of top ≡ [] → LeadsUp records has_body total None (top ∷ reverse way) → LeadsUp records has_body total None (frame ∷ reverse shorter)
  up-popped total top frame way shorter is end up =
      subst (LeadsUp records has_body total None) (ap reverse is ∙ reverse-append shorter (frame ∷ [])) (up-back total top (reverse way) end up)

  pub up-put : (total : Option Place) (inner top : Frame) (way longer : List Frame) → longer ≡ way ++ top ∷ [] → LeadsUp records has_body total None (inner ∷ top ∷ reverse way) → LeadsUp records has_body total None (inner ∷ reverse longer)
  up-put total inner top way longer is up = subst (λ (l : List Frame). LeadsUp records has_body total None (inner ∷ l)) (sym (ap reverse is ∙ reverse-append way (top ∷ []))) up

-- what is known of the records after some calls is known of them as they were
pub over : {F : Type 0} {tells : F → Bool} {records : F → RecordsAt} {refs : F → List GName} {faults : F → ℕ} {first now : F} (P : RecordsAt → Type 0) → Stays tells records refs faults first now → IsTrue (tells first) → (IsTrue (tells now) → P (records now)) → P (records first)
over P stays told known = subst P stays.records_same (known (stays.tells_same ∙ told))

-- an error that is answered in place of another
abbrev refused : {A : Type 0} → ReadError → Result A ReadError
refused error = Err error

pub answered : {A B : Type 0} (error wanted : ReadError) (result : Result B ReadError) → IsErrAnd result (λ given. given ≡ error) → result ≡ Err wanted → refused {A = A} error ≡ refused wanted
answered error wanted (Ok value) is e = absurd is
answered error wanted (Err given) is e = let same : given ≡ wanted = cc e in ap refused (sym is ∙ same)
