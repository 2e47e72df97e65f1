-- A seal, call by call: the bytes of the ends, and what a crash may leave after each call.
use Rattle.std.proofs.Common.{◌≡◌, ◌<◌, ◌≤◌, ℕ, ◌+◌, ◌*◌, List, [], ◌∷◌, ◌++◌, length, take, drop, get_or, Some, Bool, true, false, refl, sym, ◌∙◌, ap, subst, arith, append_assoc, length-append, length-take, length-drop, inl, inr}
use mathlib.Core.Logic.{◌≢◌}
use Rattle.std.proofs.lemmas.Bool.{cases_lt}
use Rattle.std.proofs.lemmas.List.{drop-take, get_or-drop, take_at, drop_at}
use Rattle.std.specs.FinMap.{get}
use Rattle.std.specs.Prelude.{IsTrue}
use Rattle.xod_volume.specs.Files.{Files, Content, bytes_in, bytes_of, overwritten}
use Rattle.xod_volume.specs.Crash.{OnFile, OnBytes, Torn}
use Rattle.xod_volume.proofs.CallerLemmas.{Torn-front, Torn-within, overwritten_within}
use Rattle.xod_log.specs.declared.log.Log.{Log}
use Rattle.xod_log.specs.Ends.{gate_at, numbers_at, numbers, IsOpen}
use Rattle.xod_log.specs.Standing.{AtRest, LeftStanding, LastSays, Stands, body_file, ends_file}
use Rattle.xod_log.specs.Calls.{Seals, HasMark, marked_ends, no_mark}
use Rattle.xod_log.proofs.Bytes.{shorter_front, same_get, same_gate, get_past, parts_length, parts_front, parts_there, parts_rest}
use Rattle.xod_log.proofs.Claims.{files_apart}

-- a file that is there after a step on its bytes
pub on_some : (step : List ℕ → List ℕ → Type 0) (old new : Content) (was : List ℕ) → old ≡ Some was → OnBytes step old new → (is : List ℕ) × (new ≡ Some is) × step was is
on_some step old new was there on = subst (λ (c : Content). OnBytes step c new) there on

-- a file that is there has its bytes
pub has_bytes : (files : Files) (file : ℕ) (bytes : List ℕ) → get files file ≡ Some bytes → (get files file ≡ Some (bytes_of files file)) × (bytes_of files file ≡ bytes)
has_bytes files file bytes e = (e ∙ ap (λ (c : Content). Some (bytes_in c)) (sym e), ap bytes_in e)

-- what is not sealed is not
not_sealed : (b : Bool) → b ≡ false → IsTrue b → ⊥
not_sealed true e h = cc
not_sealed false e h = cc

module _ (log : Log) (B E : List ℕ) (rest : AtRest log.marks E E) where
  abbrev m : ℕ
  m = log.marks

  abbrev nums : List ℕ
  nums = numbers log.end log.back

  abbrev front : List ℕ
  front = take (13 * m) E

  front_long : length front ≡ 13 * m
  front_long = omega (arith, length-take (13 * m) E, rest.size)

  -- ---- the bytes of the ends

  abbrev pub numbered_ends : List ℕ
  numbered_ends = overwritten E (13 * m) nums

  abbrev pub followed_ends : List ℕ
  followed_ends = numbered_ends ++ no_mark

  abbrev pub opened_ends : List ℕ
  opened_ends = overwritten followed_ends (13 * m + 12) (1 ∷ [])

  abbrev gate : List ℕ
  gate = drop (13 * m + 12) E

  gate_long : length gate ≡ 1
  gate_long = omega (arith, length-drop (13 * m + 12) E, rest.size)

  pub numbered_is : numbered_ends ≡ front ++ (nums ++ gate)
  numbered_is = overwritten_within E (13 * m) nums (omega (arith, rest.size)) ∙ append_assoc front nums gate

  pub numbered_long : length numbered_ends ≡ 13 * (m + 1)
  numbered_long = ap length numbered_is ∙ omega (arith, parts_length front nums gate (13 * m) front_long, gate_long)

  followed_is : followed_ends ≡ front ++ (nums ++ (gate ++ no_mark))
  followed_is = ap (λ (l : List ℕ). l ++ no_mark) numbered_is ∙ append_assoc front (nums ++ gate) no_mark ∙ ap (λ (l : List ℕ). front ++ l) (append_assoc nums gate no_mark)

  pub followed_long : length followed_ends ≡ 13 * (m + 2)
  followed_long = omega (arith, length-append numbered_ends no_mark, numbered_long)

  -- what the ends have whose last mark has the numbers
  pub record Numbered (ends : List ℕ) : Type 0 where
    pub size : length ends ≡ 13 * (m + 2)
    pub front_is : take (13 * m) ends ≡ take (13 * m) E
    pub says : numbers_at ends m ≡ nums
    pub next_gate : gate_at ends (m + 1) ≡ 0

  -- the front, the numbers, a gate and a closed mark
  numbered_parts : (g : List ℕ) → length g ≡ 1 → Numbered (front ++ (nums ++ (g ++ no_mark)))
  numbered_parts g long =
      let behind : List ℕ = g ++ no_mark in
      let there : drop (13 * m + 12) (front ++ (nums ++ behind)) ≡ behind = parts_rest front nums behind (13 * m) front_long in
      let at : 13 * m + 12 + 13 ≡ 13 * (m + 1) + 12 = omega arith in
      let last : get_or behind 13 0 ≡ 0 = sym (get_or-drop 1 behind 12 0) ∙ ap (λ (l : List ℕ). get_or l 12 0) (drop_at g no_mark 1 long) in
      record {
        size = omega (arith, parts_length front nums behind (13 * m) front_long, length-append g no_mark, long);
        front_is = parts_front front nums behind (13 * m) front_long;
        says = parts_there front nums behind (13 * m) front_long;
        next_gate = subst (λ (k : ℕ). get_or (front ++ (nums ++ behind)) k 0 ≡ 0) at
            (sym (get_or-drop (13 * m + 12) (front ++ (nums ++ behind)) 13 0) ∙ ap (λ (l : List ℕ). get_or l 13 0) there ∙ last);
      }

  pub followed_numbered : Numbered followed_ends
  followed_numbered = subst Numbered (sym followed_is) (numbered_parts gate gate_long)

  marked_numbered : Numbered (marked_ends log E)
  marked_numbered = numbered_parts (1 ∷ []) refl

  marked_gate : gate_at (marked_ends log E) m ≡ 1
  marked_gate =
      let behind : List ℕ = 1 ∷ no_mark in
      let at : 13 * m + 12 + 0 ≡ 13 * m + 12 = omega arith in
      subst (λ (k : ℕ). get_or (marked_ends log E) k 0 ≡ 1) at
      (sym (get_or-drop (13 * m + 12) (marked_ends log E) 0 0) ∙ ap (λ (l : List ℕ). get_or l 0 0) (parts_rest front nums behind (13 * m) front_long))

  -- the gate alone is any byte after it was torn
  pub torn_numbered : (ends : List ℕ) → Torn (13 * m + 12) 1 followed_ends ends → Numbered ends
  torn_numbered ends torn = record {
    size = Torn-within (13 * m + 12) 1 followed_ends ends (omega (arith, followed_long)) torn ∙ followed_long;
    front_is = shorter_front (13 * m + 12) (13 * m) ends followed_ends torn.before (omega arith) ∙ followed_numbered.front_is;
    says = sym (drop-take (13 * m) 12 ends) ∙ ap (λ (l : List ℕ). drop (13 * m) l) torn.before ∙ drop-take (13 * m) 12 followed_ends ∙ followed_numbered.says;
    next_gate = get_past (13 * m + 12 + 1) (13 * (m + 1) + 12) ends followed_ends torn.after (omega arith) ∙ followed_numbered.next_gate;
  }

  -- the gate's write makes them what a seal is to leave
  pub opened_is : opened_ends ≡ marked_ends log E
  opened_is =
      let before : List ℕ = front ++ nums in
      let long : length before ≡ 13 * m + 12 = omega (arith, length-append front nums, front_long) in
      let whole : followed_ends ≡ before ++ (gate ++ no_mark) = followed_is ∙ sym (append_assoc front nums (gate ++ no_mark)) in
      let up_to : take (13 * m + 12) followed_ends ≡ before = ap (take (13 * m + 12)) whole ∙ take_at before (gate ++ no_mark) (13 * m + 12) long in
      let behind : drop (13 * m + 12 + 1) followed_ends ≡ no_mark = ap (drop (13 * m + 12 + 1)) whole ∙ subst (λ (k : ℕ). drop (13 * m + 12 + k) (before ++ (gate ++ no_mark)) ≡ no_mark) gate_long (parts_rest before gate no_mark (13 * m + 12) long) in
      let one : List ℕ = 1 ∷ [] in
      overwritten_within followed_ends (13 * m + 12) one (omega (arith, followed_long))
      ∙ ap (λ (l : List ℕ). (l ++ one) ++ drop (13 * m + 12 + 1) followed_ends) up_to
      ∙ ap (λ (l : List ℕ). (before ++ one) ++ l) behind
      ∙ append_assoc before one no_mark
      ∙ append_assoc front nums (1 ∷ no_mark)

  -- ---- the images, each beside the one that it comes of

  -- the body is whole, and the mark to come is closed
  pub record Closing (most : ℕ) (was left : Files) : Type 0 where
    pub others : (other : ℕ) → other ≢ ends_file log → get left other ≡ get was other
    pub whole : get left (body_file log) ≡ Some B
    pub ends : List ℕ
    pub there : get left (ends_file log) ≡ Some ends
    pub long : 13 * (m + 1) ≤ length ends
    pub no_longer : length ends ≤ most
    pub front_is : take (13 * m) ends ≡ take (13 * m) E
    pub closed : gate_at ends m ≡ 0

  -- the body is whole, and these are the ends
  pub record Exactly (exact : List ℕ) (was left : Files) : Type 0 where
    pub others : (other : ℕ) → other ≢ ends_file log → get left other ≡ get was other
    pub whole : get left (body_file log) ≡ Some B
    pub there : get left (ends_file log) ≡ Some exact

  -- the body is whole, and the last mark has the numbers
  pub record Opening (was left : Files) : Type 0 where
    pub others : (other : ℕ) → other ≢ ends_file log → get left other ≡ get was other
    pub whole : get left (body_file log) ≡ Some B
    pub ends : List ℕ
    pub there : get left (ends_file log) ≡ Some ends
    pub numbered : Numbered ends

  pub settled : (was : Files) → LeftStanding log E was → get was (body_file log) ≡ Some B → Closing (13 * (m + 1)) was was
  settled was stood whole = record {
    others = λ other apart. refl;
    whole = whole;
    ends = bytes_of was (ends_file log);
    there = stood.has_ends;
    long = omega (arith, stood.at_rest.size);
    no_longer = omega (arith, stood.at_rest.size);
    front_is = stood.at_rest.front;
    closed = stood.at_rest.gate;
  }

  pub numbering : (was mid left : Files) → Closing (13 * (m + 1)) was mid → OnFile (ends_file log) (OnBytes (Torn (13 * m) 12)) mid left → Closing (13 * (m + 1)) was left
  numbering was mid left s on =
      let here = on_some (Torn (13 * m) 12) (get mid (ends_file log)) (get left (ends_file log)) s.ends s.there on.here in
      let torn = here.2 in
      let same = Torn-within (13 * m) 12 s.ends here.0 (omega (arith, s.long)) torn in
      record {
        others = λ other apart. on.others other apart ∙ s.others other apart;
        whole = on.others (body_file log) (files_apart log.file) ∙ s.whole;
        ends = here.0;
        there = here.1;
        long = omega (arith, same, s.long);
        no_longer = omega (arith, same, s.no_longer);
        front_is = torn.before ∙ s.front_is;
        closed = get_past (13 * m + 12) (13 * m + 12) here.0 s.ends torn.after (omega arith) ∙ s.closed;
      }

  pub following : (was mid left : Files) (size : ℕ) → size ≡ 13 * (m + 1) → Closing (13 * (m + 1)) was mid → OnFile (ends_file log) (OnBytes (Torn size 13)) mid left → Closing (13 * (m + 2)) was left
  following was mid left size is s on =
      let here = on_some (Torn size 13) (get mid (ends_file log)) (get left (ends_file log)) s.ends s.there on.here in
      let torn = here.2 in
      record {
        others = λ other apart. on.others other apart ∙ s.others other apart;
        whole = on.others (body_file log) (files_apart log.file) ∙ s.whole;
        ends = here.0;
        there = here.1;
        long = omega (arith, torn.no_shorter, s.long);
        no_longer = omega (arith, torn.no_longer, s.no_longer, is);
        front_is = Torn-front size 13 (13 * m) s.ends here.0 (omega (arith, is)) torn ∙ s.front_is;
        closed = same_get size (13 * m + 12) here.0 s.ends torn.before (omega (arith, is)) ∙ s.closed;
      }

  pub followed : (most : ℕ) (was left : Files) → get left (ends_file log) ≡ Some followed_ends → Closing most was left → Exactly followed_ends was left
  followed most was left there s = record { others = s.others; whole = s.whole; there = there }

  pub opening : (was mid left : Files) → Exactly followed_ends was mid → OnFile (ends_file log) (OnBytes (Torn (13 * m + 12) 1)) mid left → Opening was left
  opening was mid left s on =
      let here = on_some (Torn (13 * m + 12) 1) (get mid (ends_file log)) (get left (ends_file log)) followed_ends s.there on.here in
      record {
        others = λ other apart. on.others other apart ∙ s.others other apart;
        whole = on.others (body_file log) (files_apart log.file) ∙ s.whole;
        ends = here.0;
        there = here.1;
        numbered = torn_numbered here.0 here.2;
      }

  -- ---- each of them is what a seal may leave

  pub start_fine : (was : Files) → LeftStanding log E was → Seals log B E was was
  start_fine was stood = record {
    others = λ other apart. refl;
    pair = inl (record {
      body = refl;
      has_ends = stood.has_ends;
      long = omega (arith, stood.at_rest.size);
      no_longer = omega (arith, stood.at_rest.size);
      front = refl;
      gate = stood.at_rest.gate;
    });
  }

  pub closing_fine : (most : ℕ) → most ≤ 13 * (m + 2) → (was left : Files) → LeftStanding log E was → Closing most was left → Seals log B E was left
  closing_fine most le was left stood s =
      let bytes = has_bytes left (ends_file log) s.ends s.there in
      record {
        others = s.others;
        pair = inl (record {
          body = s.others (body_file log) (files_apart log.file);
          has_ends = bytes.0;
          long = omega (arith, ap length bytes.1, s.long);
          no_longer = omega (arith, ap length bytes.1, s.no_longer, le);
          front = ap (take (13 * m)) bytes.1 ∙ s.front_is ∙ sym stood.at_rest.front;
          gate = ap (λ (l : List ℕ). gate_at l m) bytes.1 ∙ s.closed;
        });
      }

  pub opening_fine : log.is_sealed ≡ false → (was left : Files) → Opening was left → Seals log B E was left
  opening_fine unsealed was left s =
      let bytes = has_bytes left (ends_file log) s.ends s.there in
      let n = subst Numbered (sym bytes.1) s.numbered in
      record {
        others = s.others;
        pair = inr (record { unsealed = unsealed; whole = s.whole; has_ends = bytes.0; size = n.size; front = n.front_is; says = n.says; next_gate = n.next_gate });
      }

  -- ---- the log stands again

  -- after a call that came to the numbers at most
  pub closing_stands : (left : Files) → (was : Files) → Closing (13 * (m + 1)) was left → LeftStanding log E left
  closing_stands left was s =
      let body = has_bytes left (body_file log) B s.whole in
      let bytes = has_bytes left (ends_file log) s.ends s.there in
      record {
        has_body = body.0;
        has_ends = bytes.0;
        at_rest = record {
          size = ap length bytes.1 ∙ omega (arith, s.long, s.no_longer);
          front = ap (take (13 * m)) bytes.1 ∙ s.front_is;
          gate = ap (λ (l : List ℕ). gate_at l m) bytes.1 ∙ s.closed;
        };
      }

  pub numbered_rest : AtRest m E numbered_ends
  numbered_rest =
      let at : 13 * m + 12 + 0 ≡ 13 * m + 12 = omega arith in
      let there : drop (13 * m + 12) numbered_ends ≡ gate = ap (drop (13 * m + 12)) numbered_is ∙ parts_rest front nums gate (13 * m) front_long in
      record {
        size = numbered_long;
        front = ap (take (13 * m)) numbered_is ∙ parts_front front nums gate (13 * m) front_long;
        gate = get_past (13 * m + 12) (13 * m + 12) numbered_ends E there (omega arith) ∙ rest.gate;
      }

  pub marked_rest : AtRest (m + 1) (marked_ends log E) (marked_ends log E)
  marked_rest = record { size = marked_numbered.size ∙ omega arith; front = refl; gate = marked_numbered.next_gate }

  pub marked_opened : ((mark : ℕ) → mark < m → gate_at E mark ≢ 0) → (mark : ℕ) → mark < m + 1 → gate_at (marked_ends log E) mark ≢ 0
  marked_opened opened mark lt zero_gate = elim (cases_lt mark m) [
    | inl below ↦ opened mark below (sym (same_gate m mark (marked_ends log E) E marked_numbered.front_is below) ∙ zero_gate)
    | inr above ↦
        let is : mark ≡ m = omega (arith, lt, above) in
        let closed : gate_at (marked_ends log E) m ≡ 0 = subst (λ (k : ℕ). gate_at (marked_ends log E) k ≡ 0) is zero_gate in
        omega (arith, marked_gate, closed)
  ]

  pub marked_says : numbers_at (marked_ends log E) m ≡ nums
  marked_says = marked_numbered.says

  marked_last : LastSays (m + 1) log.end log.back (marked_ends log E)
  marked_last = record {
    none = λ none. absurd (omega (arith, none));
    some = λ mark next. let same : m ≡ mark = omega (arith, next) in subst (λ (k : ℕ). numbers_at (marked_ends log E) k ≡ nums) same marked_says;
  }

  -- ---- standing

  module _ (opened : (mark : ℕ) → mark < m → gate_at E mark ≢ 0) (size : length B ≡ log.end) (F : Files) (images : Files → Type 0) (body_there : get F (body_file log) ≡ Some B) where
    -- after want of memory for the closed mark
    pub numbered_stands : log.is_sealed ≡ false → get F (ends_file log) ≡ Some numbered_ends → ((left : Files) → images left → LeftStanding log E left) → Stands log F images
    numbered_stands unsealed ends_there each =
        let body = has_bytes F (body_file log) B body_there in
        let ends = has_bytes F (ends_file log) numbered_ends ends_there in
        record {
          has_body = body.0;
          has_ends = ends.0;
          size = ap length body.1 ∙ size;
          opened = λ mark lt zero_gate. opened mark lt (sym (same_gate m mark numbered_ends E numbered_rest.front lt) ∙ subst (λ (l : List ℕ). gate_at l mark ≡ 0) ends.1 zero_gate);
          at_rest = subst (λ (l : List ℕ). AtRest m l l) (sym ends.1) (record { size = numbered_rest.size; front = refl; gate = numbered_rest.gate });
          each = λ left i.
              let from = each left i in
              record {
                has_body = from.has_body;
                has_ends = from.has_ends;
                at_rest = record {
                  size = from.at_rest.size;
                  front = from.at_rest.front ∙ sym numbered_rest.front ∙ ap (take (13 * m)) (sym ends.1);
                  gate = from.at_rest.gate;
                };
              };
          settled = λ sealed. absurd (not_sealed log.is_sealed unsealed sealed);
          last = λ sealed. absurd (not_sealed log.is_sealed unsealed sealed);
        }

    -- after the gate's sync
    pub marked_stands : get F (ends_file log) ≡ Some (marked_ends log E) → ((left : Files) → images left → get left (body_file log) ≡ Some B) → ((left : Files) → images left → get left (ends_file log) ≡ Some (marked_ends log E))
        → Stands (record log { marks = log.marks + 1; is_sealed = true }) F images
    marked_stands ends_there each_body each_ends =
        let body = has_bytes F (body_file log) B body_there in
        let ends = has_bytes F (ends_file log) (marked_ends log E) ends_there in
        record {
          has_body = body.0;
          has_ends = ends.0;
          size = ap length body.1 ∙ size;
          opened = subst (λ (l : List ℕ). (mark : ℕ) → mark < m + 1 → gate_at l mark ≢ 0) (sym ends.1) (marked_opened opened);
          at_rest = subst (λ (l : List ℕ). AtRest (m + 1) l l) (sym ends.1) marked_rest;
          each = λ left i.
              let left_body = has_bytes left (body_file log) B (each_body left i) in
              let left_ends = has_bytes left (ends_file log) (marked_ends log E) (each_ends left i) in
              record {
                has_body = left_body.0;
                has_ends = left_ends.0;
                at_rest = subst (λ (l : List ℕ). AtRest (m + 1) l (bytes_of left (ends_file log))) (sym ends.1) (subst (λ (l : List ℕ). AtRest (m + 1) (marked_ends log E) l) (sym left_ends.1) marked_rest);
              };
          settled = λ sealed. record { body = λ left i. each_body left i ∙ sym body_there; ends = λ left i. each_ends left i ∙ sym ends_there };
          last = λ sealed. subst (LastSays (m + 1) log.end log.back) (sym ends.1) marked_last;
        }

    -- an image that has the marked ends has the mark open
    pub marked_has : (left : Files) (mark : ℕ) → get left (ends_file log) ≡ Some (marked_ends log E) → m + 1 ≡ mark + 1 → HasMark (record log { marks = log.marks + 1; is_sealed = true }) mark left
    marked_has left mark there is =
        let bytes = has_bytes left (ends_file log) (marked_ends log E) there in
        let same : m ≡ mark = omega (arith, is) in
        record {
          opened = subst (λ (l : List ℕ). IsOpen l mark) (sym bytes.1) (record {
            gates = λ earlier le zero_gate. marked_opened opened earlier (omega (arith, le, same)) zero_gate;
            followed = omega (arith, marked_numbered.size, same);
          });
          says = subst (λ (l : List ℕ). numbers_at l mark ≡ nums) (sym bytes.1) (subst (λ (k : ℕ). numbers_at (marked_ends log E) k ≡ nums) same marked_says);
        }
