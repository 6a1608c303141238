-- Spans with their places between two cuts.
use Rattle.range_copy.proofs.Prelude.{◌≡◌, ℕ, zero, suc, ◌+◌, ◌-◌, ◌≤◌, true, List, [], ◌∷◌, ◌++◌, map, length, Some, refl, ap, ◌∙◌, sym, arith, slice_get}
use Rattle.range_copy.proofs.Prelude.{append_assoc, reverse, nat_lt, AllByRecursion, false≢true, ltb-true, and_parts, length-map, map-append, reverse-append}
use Rattle.range_copy.proofs.Prelude.{Piece, are_cuts, ascends_above, pieces, pieces_from, IsLoad, spans_left, end_of, last_of, Load, same_some}
use Rattle.range_copy.proofs.Cover.{last_above}

-- all of a list and one more, and back

pub all_push : {X : Type 0} (P : X → Type 0) (xs : List X) (x : X) → AllByRecursion P xs → P x → AllByRecursion P (xs ++ x ∷ [])
all_push P [] x h p = (p, tt)
all_push P (y ∷ xs) x h p = (h.0, all_push P xs x h.1 p)

pub all_apart : {X : Type 0} (P : X → Type 0) (xs ys : List X) → AllByRecursion P (xs ++ ys) → AllByRecursion P xs × AllByRecursion P ys
all_apart P [] ys h = (tt, h)
all_apart P (x ∷ xs) ys h = let r = all_apart P xs ys h.1 in ((h.0, r.0), r.1)

-- the piece between two cuts, and that the second cut is inside

pieces_at : (path : List ℕ) (at : ℕ) (cuts : List ℕ) (k a b : ℕ) → slice_get (at ∷ cuts) k ≡ Some a → slice_get (at ∷ cuts) (suc k) ≡ Some b →
    slice_get (pieces_from path at cuts) k ≡ Some (record { path = path; start = a; size = b - a })
pieces_at path at [] zero a b e f = cc
pieces_at path at [] (suc k) a b e f = cc
pieces_at path at (cut ∷ cuts) zero a b e f = λ i.
    Some (record { path = path; start = same_some at a e i; size = same_some cut b f i - same_some at a e i })
pieces_at path at (cut ∷ cuts) (suc k) a b e f = pieces_at path cut cuts k a b e f

up_at : (at : ℕ) (cuts : List ℕ) (k a b : ℕ) → ascends_above at cuts ≡ true → slice_get (at ∷ cuts) k ≡ Some a → slice_get (at ∷ cuts) (suc k) ≡ Some b →
    (a ≤ b) × (b ≤ last_of at cuts)
up_at at [] zero a b u e f = cc
up_at at [] (suc k) a b u e f = cc
up_at at (cut ∷ cuts) zero a b u e f =
    let t = and_parts (nat_lt at cut) (ascends_above cut cuts) u in
    (omega (arith, ltb-true at cut t.0, same_some at a e, same_some cut b f), omega (arith, last_above cut cuts t.1, same_some cut b f))
up_at at (cut ∷ cuts) (suc k) a b u e f = up_at cut cuts k a b (and_parts (nat_lt at cut) (ascends_above cut cuts) u).1 e f

-- two cuts of a file that stand side by side
pub record SideBySide (cuts : List ℕ) (k a b : ℕ) : Type 0 where
  pub up : a ≤ b
  pub inside : b ≤ end_of cuts
  pub piece : (path : List ℕ) → slice_get (pieces path cuts) k ≡ Some (record { path = path; start = a; size = b - a })

pub side_by_side : (cuts : List ℕ) (k a b : ℕ) → are_cuts cuts ≡ true → slice_get cuts k ≡ Some a → slice_get cuts (k + 1) ≡ Some b → SideBySide cuts k a b
side_by_side [] k a b c e f = absurd (false≢true c)
side_by_side (first ∷ []) k a b c e f = absurd (false≢true c)
side_by_side (first ∷ second ∷ cuts) k a b c e f =
    let next : slice_get (first ∷ second ∷ cuts) (suc k) ≡ Some b = ap (slice_get (first ∷ second ∷ cuts)) (sym (more k)) ∙ f in
    let u = and_parts (Rattle.std.specs.Prelude.◌==◌ first 0) (ascends_above first (second ∷ cuts)) c in
    let r = up_at first (second ∷ cuts) k a b u.1 e next in
    record { up = r.0; inside = r.1; piece = λ path. pieces_at path first (second ∷ cuts) k a b e next }
  where
    more : (k : ℕ) → k + 1 ≡ suc k
    more k = omega arith

-- one load more

get_mid : {X Y : Type 0} (f : X → Y) (front rest : List X) (x : X) → slice_get (map f ((front ++ x ∷ []) ++ rest)) (length front) ≡ Some (f x)
get_mid f [] rest x = refl
get_mid f (y ∷ front) rest x = get_mid f front rest x

pub left_push : {S : Type 0} (front : List S) (loads : List (Load S)) (load : Load S) → front ++ spans_left (loads ++ load ∷ []) ≡
    (front ++ load.span ∷ []) ++ spans_left loads
left_push front loads load =
    ap (λ xs. front ++ reverse xs) (map-append (λ (l : Load _). l.span) loads (load ∷ []))
    ∙ ap (λ xs. front ++ xs) (reverse-append (map (λ (l : Load _). l.span) loads) (load.span ∷ []))
    ∙ sym (append_assoc front (load.span ∷ []) (spans_left loads))

pub is_load : {S : Type 0} (piece : S → Piece) (cuts path : List ℕ) (all front : List S) (loads : List (Load S)) (load : Load S) →
    are_cuts cuts ≡ true → slice_get cuts (length front) ≡ Some load.start → slice_get cuts (length front + 1) ≡ Some (load.start + load.size) →
    (front ++ load.span ∷ []) ++ spans_left loads ≡ all → map piece all ≡ pieces path cuts → IsLoad piece (end_of cuts) load
is_load piece cuts path all front loads load c e f whole are =
    let side = side_by_side cuts (length front) load.start (load.start + load.size) c e f in
    let here = same_some (piece load.span) (record { path = path; start = load.start; size = load.start + load.size - load.start })
    (sym (get_mid piece front (spans_left loads) load.span)
    ∙ ap (λ xs. slice_get xs (length front)) (ap (map piece) whole ∙ are) ∙ side.piece path) in
    let long : load.start + load.size - load.start ≡ load.size = omega arith in
    record {
      start = sym (ap (λ (p : Piece). p.start) here);
      size = sym (ap (λ (p : Piece). p.size) here ∙ long);
      inside = side.inside;
    }

-- there are as many spans as neighbouring cuts

count_pieces : (path : List ℕ) (at : ℕ) (cuts : List ℕ) → length (pieces_from path at cuts) ≡ length cuts
count_pieces path at [] = refl
count_pieces path at (cut ∷ cuts) = ap suc (count_pieces path cut cuts)

pub pieces_many : {S : Type 0} (piece : S → Piece) (path cuts : List ℕ) (spans : List S) → are_cuts cuts ≡ true → map piece spans ≡ pieces path cuts →
    length spans + 1 ≡ length cuts
pieces_many piece path [] spans c e = absurd (false≢true c)
pieces_many piece path (first ∷ cuts) spans c e =
    omega (arith, length-map spans piece, ap length e, count_pieces path first cuts)
