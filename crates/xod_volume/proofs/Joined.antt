-- Bytes in pieces one after another: what an overwrite, a read and a cut of some pieces make of the bytes of all.
use Rattle.std.proofs.Common.{◌≡◌, ◌≤◌, ◌<◌, ℕ, suc, ◌+◌, ◌-◌, min, List, [], ◌∷◌, ◌++◌, length, take, drop, get_or, set, refl, sym, ◌∙◌, ap, subst, inl, inr, arith, append_assoc, length-set, append-nil, length-append, map, zero, Bool, true, false, MatchBool, if◌then◌else◌}
use Rattle.std.specs.List.{concat}
use Rattle.std.proofs.lemmas.Bool.{cases_lt, false≢true}
use Rattle.std.proofs.lemmas.List.{take_all, drop_all, take_more, take_more_set, take-append-le, drop-append-le, take_at, take-append-drop, get_or_default, length-take-le, length-drop}
use Rattle.std.proofs.Math.Seq.{take-append-add, drop-append-add, drop-cons}
use Rattle.std.proofs.lemmas.List.Folds.{concat-append}
use Rattle.xod_volume.specs.Files.{overwritten}
use Rattle.xod_volume.specs.Leases.{Filled}
use Rattle.xod_volume.specs.Places.{IsPlace, starts_from, starts_of}

-- the bytes fit, so all of them are written
over_within : (old bytes : List ℕ) (at : ℕ) → at + length bytes ≤ length old → overwritten old at bytes ≡ take at old ++ bytes ++ drop (at + length bytes) old
over_within old bytes at fits = ap (λ (m : List ℕ). take at old ++ m ++ drop (at + length bytes) old) (take_all (length old - at) bytes (omega (arith, fits)))

-- nothing is written
over_none : (old : List ℕ) (at : ℕ) → at ≤ length old → overwritten old at [] ≡ old
over_none old at fits = over_within old [] at (omega (arith, fits)) ∙ ap (λ (m : List ℕ). m ++ drop (at + length {A = ℕ} []) old) (append-nil (take at old)) ∙ ap (λ (k : ℕ). take at old ++ drop k old) (omega arith) ∙ take-append-drop at old

-- written past the first part
over_after : (a b bytes : List ℕ) (k : ℕ) → overwritten (a ++ b) (length a + k) bytes ≡ a ++ overwritten b k bytes
over_after a b bytes k =
    ap (λ (m : List ℕ). m ++ take (length (a ++ b) - (length a + k)) bytes ++ drop (length a + k + length bytes) (a ++ b)) (take-append-add a b k)
    ∙ ap (λ (j : ℕ). (a ++ take k b) ++ take j bytes ++ drop (length a + k + length bytes) (a ++ b)) (omega (arith, length-append a b))
    ∙ ap (λ (j : ℕ). (a ++ take k b) ++ take (length b - k) bytes ++ drop j (a ++ b)) (omega arith)
    ∙ ap (λ (m : List ℕ). (a ++ take k b) ++ take (length b - k) bytes ++ m) (drop-append-add a b (k + length bytes))
    ∙ ap (λ (m : List ℕ). m ++ drop (k + length bytes) b) (append_assoc a (take k b) (take (length b - k) bytes))
    ∙ append_assoc a (take k b ++ take (length b - k) bytes) (drop (k + length bytes) b)

pub over_behind : (a b bytes : List ℕ) (at : ℕ) → length a ≤ at → overwritten (a ++ b) at bytes ≡ a ++ overwritten b (at - length a) bytes
over_behind a b bytes at le = ap (λ (k : ℕ). overwritten (a ++ b) k bytes) (omega (arith, le)) ∙ over_after a b bytes (at - length a)

-- written in the first part alone
over_in : (a b bytes : List ℕ) (at : ℕ) → at + length bytes ≤ length a → overwritten (a ++ b) at bytes ≡ overwritten a at bytes ++ b
over_in a b bytes at fits =
    over_within (a ++ b) bytes at (omega (arith, fits, length-append a b))
    ∙ ap (λ (m : List ℕ). m ++ bytes ++ drop (at + length bytes) (a ++ b)) (take-append-le at a b (omega (arith, fits)))
    ∙ ap (λ (m : List ℕ). take at a ++ bytes ++ m) (drop-append-le (at + length bytes) a b fits)
    ∙ sym (append_assoc (take at a ++ bytes) (drop (at + length bytes) a) b)
    ∙ ap (λ (m : List ℕ). m ++ b) (sym (over_within a bytes at fits))

-- written to the end of the first part, and on from the start of the second
over_out : (a b here further : List ℕ) (at : ℕ) → at + length here ≡ length a → length further ≤ length b
    → overwritten (a ++ b) at (here ++ further) ≡ overwritten a at here ++ overwritten b 0 further
over_out a b here further at ends fits =
    over_within (a ++ b) (here ++ further) at (omega (arith, ends, fits, length-append a b, length-append here further))
    ∙ ap (λ (m : List ℕ). m ++ (here ++ further) ++ drop (at + length (here ++ further)) (a ++ b)) (take-append-le at a b (omega (arith, ends)))
    ∙ ap (λ (k : ℕ). take at a ++ (here ++ further) ++ drop k (a ++ b)) (omega (arith, ends, length-append here further))
    ∙ ap (λ (m : List ℕ). take at a ++ (here ++ further) ++ m) (drop-append-add a b (length further))
    ∙ ap (λ (m : List ℕ). m ++ drop (length further) b) (sym (append_assoc (take at a) here further))
    ∙ append_assoc (take at a ++ here) further (drop (length further) b)
    ∙ ap (λ (m : List ℕ). m ++ (further ++ drop (length further) b)) (sym (append-nil (take at a ++ here)))
    ∙ ap (λ (m : List ℕ). take at a ++ here ++ m ++ (further ++ drop (length further) b)) (sym (drop_all (at + length here) a (omega (arith, ends))))
    ∙ ap (λ (m : List ℕ). m ++ (further ++ drop (length further) b)) (sym (over_within a here at (omega (arith, ends))))
    ∙ ap (λ (m : List ℕ). overwritten a at here ++ m) (ap (λ (k : ℕ). further ++ drop k b) (omega arith) ∙ sym (over_within b further 0 (omega (arith, fits))))

-- written from the first part on: what the first takes goes there, and the rest to the second
pub over_split : (a b bytes : List ℕ) (at n : ℕ) → at ≤ length a → at + length bytes ≤ length (a ++ b) → n ≡ min (length bytes) (length a - at)
    → overwritten (a ++ b) at bytes ≡ overwritten a at (take n bytes) ++ overwritten b 0 (drop n bytes)
over_split a b bytes at n le fits is = elim (cases_lt (length a - at) (length bytes)) [
  | inl more ↦
      ap (λ (m : List ℕ). overwritten (a ++ b) at m) (sym (take-append-drop n bytes))
      ∙ over_out a b (take n bytes) (drop n bytes) at
      (ap (λ (k : ℕ). at + k) (length-take-le n bytes (omega (arith, is))) ∙ omega (arith, le, more, is))
      (omega (arith, le, more, is, fits, length-drop n bytes, length-append a b))
  | inr all ↦
      over_in a b bytes at (omega (arith, le, all))
      ∙ ap (λ (m : List ℕ). overwritten a at m ++ b) (sym (take_all n bytes (omega (arith, all, is))))
      ∙ ap (λ (m : List ℕ). overwritten a at (take n bytes) ++ m) (sym (ap (λ (m : List ℕ). overwritten b 0 m) (drop_all n bytes (omega (arith, all, is))) ∙ over_none b 0 (omega arith)))
]

over_length : (old bytes : List ℕ) (at : ℕ) → at + length bytes ≤ length old → length (overwritten old at bytes) ≡ length old
over_length old bytes at fits =
    ap length (over_within old bytes at fits)
    ∙ length-append (take at old ++ bytes) (drop (at + length bytes) old)
    ∙ ap (λ (k : ℕ). k + length (drop (at + length bytes) old)) (length-append (take at old) bytes)
    ∙ omega (arith, fits, length-take-le at old (omega (arith, fits)), length-drop (at + length bytes) old)

-- the bytes in use, after a write among them
pub over_front : (items bytes : List ℕ) (used at : ℕ) → used ≤ length items → at + length bytes ≤ used → take used (overwritten items at bytes) ≡ overwritten (take used items) at bytes
over_front items bytes used at le fits =
    ap (λ (m : List ℕ). take used (overwritten m at bytes)) (sym (take-append-drop used items))
    ∙ ap (λ (m : List ℕ). take used m) (over_in (take used items) (drop used items) bytes at (omega (arith, fits, length-take-le used items le)))
    ∙ take_at (overwritten (take used items) at bytes) (drop used items) used (over_length (take used items) bytes at (omega (arith, fits, length-take-le used items le)) ∙ length-take-le used items le)

-- a piece is written to, after those further on were
pub piece_over : (first rest after items held bytes : List ℕ) (used at n : ℕ)
    → take used items ≡ first → used ≤ length items → used ≡ length first → at < used → at + length bytes ≤ length (first ++ rest) → n ≡ min (length bytes) (used - at)
    → after ≡ overwritten rest 0 (drop n bytes) → held ≡ overwritten items at (take n bytes)
    → take used held ++ after ≡ overwritten (first ++ rest) at bytes
piece_over first rest after items held bytes used at n view le size lt fits is after_is held_is =
    ap (λ (m : List ℕ). take used m ++ after) held_is
    ∙ ap (λ (m : List ℕ). m ++ after) (over_front items (take n bytes) used at le (omega (arith, lt, is, length-take-le n bytes (omega (arith, is)))))
    ∙ ap (λ (m : List ℕ). overwritten m at (take n bytes) ++ after) view
    ∙ ap (λ (m : List ℕ). overwritten first at (take n bytes) ++ m) after_is
    ∙ sym (over_split first rest bytes at n (omega (arith, lt, size)) fits (is ∙ ap (λ (k : ℕ). min (length bytes) (k - at)) size))

-- a write that lies behind the first piece
pub piece_behind : (done : Bool) (first rest after bytes : List ℕ) (at : ℕ) → length first ≤ at
    → MatchBool done (after ≡ overwritten rest (at - length first) bytes) (after ≡ rest)
    → MatchBool done (first ++ after ≡ overwritten (first ++ rest) at bytes) (first ++ after ≡ first ++ rest)
piece_behind true first rest after bytes at le is = ap (λ (m : List ℕ). first ++ m) is ∙ sym (over_behind first rest bytes at le)
piece_behind false first rest after bytes at le is = ap (λ (m : List ℕ). first ++ m) is

-- one piece more
pub concat_more : (pieces : List (List ℕ)) (i : ℕ) (piece : List ℕ) → i < length pieces → piece ≡ get_or pieces i piece
    → concat (take (i + 1) pieces) ≡ concat (take i pieces) ++ piece
concat_more pieces i piece lt is =
    ap concat (take_more pieces i piece lt)
    ∙ concat-append (take i pieces) (get_or pieces i piece ∷ [])
    ∙ ap (λ (m : List ℕ). concat (take i pieces) ++ m) (append-nil (get_or pieces i piece) ∙ sym is)

-- what stands behind the first n, and behind the next
drop_sum : (n more : ℕ) (bytes : List ℕ) → n ≤ length bytes → drop more (drop n bytes) ≡ drop (n + more) bytes
drop_sum n more bytes le =
    sym (drop-append-add (take n bytes) (drop n bytes) more)
    ∙ ap (λ (m : List ℕ). drop (length (take n bytes) + more) m) (take-append-drop n bytes)
    ∙ ap (λ (k : ℕ). drop (k + more) bytes) (length-take-le n bytes le)

-- what a read takes from some bytes, and then from those behind them
taken_more : (done next : List ℕ) (at from n more room : ℕ) → n ≡ min room (length done - at) → more ≡ min (room - n) (length next - from) → from ≡ at - length done
    → take n (drop at done) ++ take more (drop from next) ≡ take (n + more) (drop at (done ++ next))
taken_more done next at from n more room first second is = elim (cases_lt at (length done)) [
  | inr behind ↦
      ap (λ (k : ℕ). take k (drop at done) ++ take more (drop from next)) {y = 0} (omega (arith, first, behind))
      ∙ ap (take more) (sym (drop-append-add done next from))
      ∙ ap (λ (k : ℕ). take more (drop k (done ++ next))) (omega (arith, is, behind))
      ∙ ap (λ (k : ℕ). take k (drop at (done ++ next))) (omega (arith, first, behind))
  | inl before ↦
      elim (cases_lt (length done - at) room) [
        | inr full ↦
            ap (λ (k : ℕ). take n (drop at done) ++ take k (drop from next)) {y = 0} (omega (arith, first, second, full))
            ∙ append-nil (take n (drop at done))
            ∙ sym (take-append-le n (drop at done) next (omega (arith, first, full, length-drop at done)))
            ∙ ap (take n) (sym (drop-append-le at done next (omega (arith, before))))
            ∙ ap (λ (k : ℕ). take k (drop at (done ++ next))) (omega (arith, first, second, full))
        | inl all ↦
            ap (λ (m : List ℕ). m ++ take more (drop from next)) (take_all n (drop at done) (omega (arith, first, all, length-drop at done)))
            ∙ ap (λ (k : ℕ). drop at done ++ take more (drop k next)) {y = 0} (omega (arith, is, before))
            ∙ sym (take-append-add (drop at done) next more)
            ∙ ap (λ (k : ℕ). take k (drop at done ++ next)) {y = n + more} (omega (arith, first, all, length-drop at done))
            ∙ ap (take (n + more)) (sym (drop-append-le at done next (omega (arith, before))))
      ]
]

-- a read of some bytes, and then of those behind them
filled_more : (done next before middle rest : List ℕ) (at from n more : ℕ)
    → Filled done at before middle n → length middle ≡ length before → from ≡ at - length done → Filled next from (drop n middle) rest more
    → Filled (done ++ next) at before (take n middle ++ rest) (n + more)
filled_more done next before middle rest at from n more first same is second =
    let within : length (take n middle) ≡ n = length-take-le n middle (omega (arith, first.size, same)) in
    record {
      size = omega (arith, first.size, second.size, same, is, length-drop n middle, length-append done next);
      front =
          ap (λ (k : ℕ). take (k + more) (take n middle ++ rest)) (sym within)
          ∙ take-append-add (take n middle) rest more
          ∙ ap (λ (m : List ℕ). m ++ take more rest) first.front
          ∙ ap (λ (m : List ℕ). take n (drop at done) ++ m) second.front
          ∙ taken_more done next at from n more (length before) first.size (omega (arith, second.size, same, length-drop n middle)) is;
      rest =
          ap (λ (k : ℕ). drop (k + more) (take n middle ++ rest)) (sym within)
          ∙ drop-append-add (take n middle) rest more
          ∙ second.rest
          ∙ ap (drop more) first.rest
          ∙ drop_sum n more before (omega (arith, first.size));
    }

-- the same, where the second read leaves what the first filled
pub filled_on : (done next before middle after : List ℕ) (at from n more : ℕ)
    → Filled done at before middle n → length middle ≡ length before → from ≡ at - length done
    → take n after ≡ take n middle → Filled next from (drop n middle) (drop n after) more
    → Filled (done ++ next) at before after (n + more)
filled_on done next before middle after at from n more first same is stay second =
    subst (λ (m : List ℕ). Filled (done ++ next) at before m (n + more))
    (ap (λ (m : List ℕ). m ++ drop n after) (sym stay) ∙ take-append-drop n after)
    (filled_more done next before middle (drop n after) at from n more first same is second)

-- a place further on, where the next bytes are passed too
pub from_next : (done next : List ℕ) (at from : ℕ) → from ≡ at - length done → from - length next ≡ at - length (done ++ next)
from_next done next at from is = omega (arith, is, length-append done next)

-- a piece put at the end
pub concat_last : (pieces : List (List ℕ)) (piece : List ℕ) → concat (pieces ++ piece ∷ []) ≡ concat pieces ++ piece
concat_last pieces piece = concat-append pieces (piece ∷ []) ∙ ap (λ (m : List ℕ). concat pieces ++ m) (append-nil piece)

-- the last piece got bytes at its end
pub concat_extended : (done : Bool) (pieces : List (List ℕ)) (i : ℕ) (piece more longer : List ℕ) → done ≡ true → longer ≡ (if done then piece ++ more else piece)
    → length pieces ≡ i + 1 → piece ≡ get_or pieces i piece → concat (set pieces i longer) ≡ concat pieces ++ more
concat_extended false pieces i piece more longer not_done _ _ _ = absurd (false≢true not_done)
concat_extended true pieces i piece more longer is_done grown last is =
    ap concat (sym (take_all (i + 1) (set pieces i longer) (omega (arith, last, length-set pieces i longer))))
    ∙ ap concat (take_more_set pieces i longer (omega (arith, last)))
    ∙ concat_last (take i pieces) longer
    ∙ ap (λ (m : List ℕ). concat (take i pieces) ++ m) grown
    ∙ sym (append_assoc (concat (take i pieces)) piece more)
    ∙ ap (λ (m : List ℕ). m ++ more) (sym (concat_more pieces i piece (omega (arith, last)) is) ∙ ap concat (take_all (i + 1) pieces (omega (arith, last))))

-- the pieces up to one, and then the others
pub concat_apart : (pieces : List (List ℕ)) (i : ℕ) → concat pieces ≡ concat (take i pieces) ++ concat (drop i pieces)
concat_apart pieces i = ap concat (sym (take-append-drop i pieces)) ∙ concat-append (take i pieces) (drop i pieces)

-- the pieces up to one, and then the first bytes of that one
pub cut_within : (pieces : List (List ℕ)) (i within kept : ℕ) (piece : List ℕ) → i < length pieces → piece ≡ get_or pieces i piece
    → kept ≡ length (concat (take i pieces)) + within → within ≤ length piece
    → concat (take (i + 1) (set pieces i (take within piece))) ≡ take kept (concat pieces)
cut_within pieces i within kept piece lt is place le =
    ap concat (take_more_set pieces i (take within piece) lt)
    ∙ concat_last (take i pieces) (take within piece)
    ∙ sym (
    ap (λ (k : ℕ). take k (concat pieces)) place
    ∙ ap (λ (m : List ℕ). take (length (concat (take i pieces)) + within) m) (concat_apart pieces i)
    ∙ take-append-add (concat (take i pieces)) (concat (drop i pieces)) within
    ∙ ap (λ (m : List (List ℕ)). concat (take i pieces) ++ take within (concat m)) (drop-cons pieces i piece lt ∙ ap (λ (m : List ℕ). m ∷ drop (suc i) pieces) (sym is))
    ∙ ap (λ (m : List ℕ). concat (take i pieces) ++ m) (take-append-le within piece (concat (drop (suc i) pieces)) le)
    )

-- the pieces up to one
pub cut_between : (pieces : List (List ℕ)) (i kept : ℕ) → kept ≡ length (concat (take i pieces)) → concat (take i pieces) ≡ take kept (concat pieces)
cut_between pieces i kept place =
    sym (ap (λ (k : ℕ). take k (concat pieces)) place ∙ ap (take (length (concat (take i pieces)))) (concat_apart pieces i) ∙ take_at (concat (take i pieces)) (concat (drop i pieces)) (length (concat (take i pieces))) refl)

-- a write to the pieces behind some others
pub pieces_behind : (written : Bool) (front rest after : List (List ℕ)) (at within : ℕ) (bytes : List ℕ) → at ≡ length (concat front) + within
    → MatchBool written (concat after ≡ overwritten (concat rest) within bytes) (concat after ≡ concat rest)
    → MatchBool written (concat (front ++ after) ≡ overwritten (concat (front ++ rest)) at bytes) (concat (front ++ after) ≡ concat (front ++ rest))
pieces_behind true front rest after at within bytes place is =
    concat-append front after
    ∙ ap (λ (m : List ℕ). concat front ++ m) is
    ∙ sym (over_after (concat front) (concat rest) bytes within)
    ∙ ap (λ (k : ℕ). overwritten (concat front ++ concat rest) k bytes) (sym place)
    ∙ ap (λ (m : List ℕ). overwritten m at bytes) (sym (concat-append front rest))
pieces_behind false front rest after at within bytes place is =
    concat-append front after ∙ ap (λ (m : List ℕ). concat front ++ m) is ∙ sym (concat-append front rest)

-- where pieces begin, with one more at the end
starts_longer : (here : ℕ) (pieces : List (List ℕ)) (piece : List ℕ)
    → starts_from here (map length (pieces ++ piece ∷ [])) ≡ starts_from here (map length pieces) ++ (here + length (concat pieces)) ∷ []
starts_longer here [] piece = ap (λ (k : ℕ). k ∷ []) (omega arith)
starts_longer here (first ∷ rest) piece =
    ap (λ (m : List ℕ). here ∷ m) (starts_longer (here + length first) rest piece
    ∙ ap (λ (k : ℕ). starts_from (here + length first) (map length rest) ++ k ∷ []) (omega (arith, length-append first (concat rest))))

pub starts_last : (pieces : List (List ℕ)) (piece : List ℕ) → starts_of (pieces ++ piece ∷ []) ≡ starts_of pieces ++ length (concat pieces) ∷ []
starts_last pieces piece = starts_longer 0 pieces piece ∙ ap (λ (k : ℕ). starts_of pieces ++ k ∷ []) (omega arith)

-- where the first n pieces begin
starts_first : (n here : ℕ) (pieces : List (List ℕ)) → starts_from here (map length (take n pieces)) ≡ take n (starts_from here (map length pieces))
starts_first zero here pieces = refl
starts_first (suc n) here [] = refl
starts_first (suc n) here (first ∷ rest) = ap (λ (m : List ℕ). here ∷ m) (starts_first n (here + length first) rest)

pub starts_taken : (n : ℕ) (pieces : List (List ℕ)) → starts_of (take n pieces) ≡ take n (starts_of pieces)
starts_taken n pieces = starts_first n 0 pieces

-- the last of the first pieces is another one: it begins where the one before it ended
pub starts_set : (pieces : List (List ℕ)) (i : ℕ) (piece : List ℕ) → i < length pieces → starts_of (take (i + 1) (set pieces i piece)) ≡ take (i + 1) (starts_of pieces)
starts_set pieces i piece lt =
    ap starts_of (take_more_set pieces i piece lt)
    ∙ starts_last (take i pieces) piece
    ∙ sym (starts_last (take i pieces) (get_or pieces i piece))
    ∙ ap starts_of (sym (take_more pieces i piece lt))
    ∙ starts_taken (i + 1) pieces

-- where one of them begins
start_from : (pieces : List (List ℕ)) (here i absent : ℕ) → i < length pieces → get_or (starts_from here (map length pieces)) i absent ≡ here + length (concat (take i pieces))
start_from (first ∷ rest) here zero absent lt = omega arith
start_from (first ∷ rest) here (suc i) absent lt =
    start_from rest (here + length first) i absent (omega (arith, lt)) ∙ omega (arith, length-append first (concat (take i rest)))
start_from [] here i absent lt = absurd (omega (arith, lt))

pub start_is : (pieces : List (List ℕ)) (i absent : ℕ) → i < length pieces → get_or (starts_of pieces) i absent ≡ length (concat (take i pieces))
start_is pieces i absent lt = start_from pieces 0 i absent lt ∙ omega arith

-- each piece begins once
pub starts_length : (here : ℕ) (pieces : List (List ℕ)) → length (starts_from here (map length pieces)) ≡ length pieces
starts_length here [] = refl
starts_length here (first ∷ rest) = ap suc (starts_length (here + length first) rest)

-- the place is found: it lies in this piece, and the next begins behind it
pub is_place : (pieces : List (List ℕ)) (at low high start : ℕ) → low < high → high ≤ low + 1 → high ≤ length pieces
    → start ≡ length (concat (take low pieces)) → start ≤ at → at < length (concat (take high pieces)) → IsPlace pieces at low (at - start)
is_place pieces at low high start lt next fits begins le before =
    let inside : low < length pieces = omega (arith, lt, fits) in
    let piece : List ℕ = get_or pieces low [] in
    let longer = concat_more pieces low piece inside (sym (get_or_default pieces low piece [] inside)) in
    let before_next : at < length (concat (take (low + 1) pieces)) = subst (λ (k : ℕ). at < length (concat (take k pieces))) {x = high} (omega (arith, lt, next)) before in
    record {
      index_in = inside;
      place = omega (arith, begins, le);
      before_its_end = omega (arith, before_next, ap length longer, length-append (concat (take low pieces)) piece, begins, le);
    }

-- a read that filled all that it was to fill takes nothing from further on
pub filled_full : (done next before after : List ℕ) (at n : ℕ) → Filled done at before after n → length after ≡ length before → n ≡ length after → Filled (done ++ next) at before after n
filled_full done next before after at n first same full =
    subst (λ (k : ℕ). Filled (done ++ next) at before after k) {x = n + 0} (omega arith)
    (filled_on done next before after after at (at - length done) n 0 first same refl refl (record { size = omega (arith, full, length-drop n after); front = refl; rest = refl }))

-- a read from behind the first bytes on
pub filled_behind : (all front back before after : List ℕ) (at within n : ℕ) → all ≡ front ++ back → at ≡ length front + within → Filled back within before after n → Filled all at before after n
filled_behind all front back before after at within n is place from_back =
    subst (λ (m : List ℕ). Filled m at before after n) (sym is)
    (subst (λ (k : ℕ). Filled (front ++ back) k before after n) (sym place)
    (record {
      size = omega (arith, from_back.size, length-append front back);
      front = from_back.front ∙ ap (take n) (sym (drop-append-add front back within));
      rest = from_back.rest;
    }))

-- the last piece is another one: all begin where they did
pub starts_same : (pieces : List (List ℕ)) (i : ℕ) (piece : List ℕ) → length pieces ≡ i + 1 → starts_of (set pieces i piece) ≡ starts_of pieces
starts_same pieces i piece last =
    ap starts_of (sym (take_all (i + 1) (set pieces i piece) (omega (arith, last, length-set pieces i piece))))
    ∙ starts_set pieces i piece (omega (arith, last))
    ∙ take_all (i + 1) (starts_of pieces) (omega (arith, last, starts_length 0 pieces))
