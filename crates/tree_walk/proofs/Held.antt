-- One entry more is held.
use Rattle.tree_walk.proofs.Prelude.{◌≡◌, ℕ, ◌+◌, List, [], ◌∷◌, ◌++◌, map, length, refl, ap, ◌∙◌, sym, subst, arith, true, false, cond, drop, Option, Some}
use Rattle.tree_walk.proofs.Prelude.{None, IfSome, AllByRecursion, sum_by, count_by, map-append, sum_by_push, sum_by-cons, joined, Files, AreNames, Listing}
use Rattle.tree_walk.proofs.Prelude.{Entry, Held, IsDone, IsPush, Holds, held_of, is_listed, first_names, log_of, entries_of, weight_of, IsLook, is_shaped}
use Rattle.tree_walk.proofs.Prelude.{all_join}

abbrev listed : Entry → ℕ
listed x = cond (is_listed x) 1 0

held_listed : (es : List Entry) (ls : List Listing) (e : Entry) (l : Listing) → count_by is_listed es ≡ length ls → is_listed e ≡ true →
    held_of (es ++ e ∷ []) (ls ++ l ∷ []) ≡ held_of es ls ++ (e, map (joined e.path) l.0) ∷ []
held_listed [] [] e l h t = ap (λ b. (e, cond b (map (joined e.path) l.0) []) ∷ []) t
held_listed [] (m ∷ ls) e l h t = absurd (omega arith)
held_listed (d ∷ es) [] e l h t =
    elim (is_listed d) as (λ b. is_listed d ≡ b → held_of (d ∷ es ++ e ∷ []) (l ∷ []) ≡ held_of (d ∷ es) [] ++ (e, map (joined e.path) l.0) ∷ []) [
      | true ↦ λ y. let one : listed d ≡ 1 = ap (λ b. cond b 1 0) y in absurd (omega (arith, h, sum_by-cons listed d es, one))
      | false ↦ λ n. let none : listed d ≡ 0 = ap (λ b. cond b 1 0) n in
          (λ i. (d, cond (n i) (map (joined d.path) l.0) []) ∷ held_of (es ++ e ∷ []) (cond (n i) [] (l ∷ [])))
          ∙ ap (λ r. (d, []) ∷ r) (held_listed es [] e l (omega (arith, h, sum_by-cons listed d es, none)) t)
          ∙ (λ i. (d, cond (sym n i) (map (joined d.path) []) []) ∷ (held_of es (cond (sym n i) [] []) ++ (e, map (joined e.path) l.0) ∷ []))
    ] refl
held_listed (d ∷ es) (m ∷ ls) e l h t =
    let last : List Held = (e, map (joined e.path) l.0) ∷ [] in
    elim (is_listed d) as (λ b. is_listed d ≡ b → held_of (d ∷ es ++ e ∷ []) (m ∷ ls ++ l ∷ []) ≡ held_of (d ∷ es) (m ∷ ls) ++ last) [
      | true ↦ λ y. let one : listed d ≡ 1 = ap (λ b. cond b 1 0) y in
          (λ i. (d, cond (y i) (map (joined d.path) m.0) []) ∷ held_of (es ++ e ∷ []) (cond (y i) (ls ++ l ∷ []) (m ∷ ls ++ l ∷ [])))
          ∙ ap (λ r. (d, map (joined d.path) m.0) ∷ r) (held_listed es ls e l (omega (arith, h, sum_by-cons listed d es, one)) t)
          ∙ (λ i. (d, cond (sym y i) (map (joined d.path) m.0) []) ∷ (held_of es (cond (sym y i) ls (m ∷ ls)) ++ (e, map (joined e.path) l.0) ∷ []))
      | false ↦ λ n. let none : listed d ≡ 0 = ap (λ b. cond b 1 0) n in
          (λ i. (d, cond (n i) (map (joined d.path) m.0) []) ∷ held_of (es ++ e ∷ []) (cond (n i) (ls ++ l ∷ []) (m ∷ ls ++ l ∷ [])))
          ∙ ap (λ r. (d, []) ∷ r) (held_listed es (m ∷ ls) e l (omega (arith, h, sum_by-cons listed d es, none)) t)
          ∙ (λ i. (d, cond (sym n i) (map (joined d.path) m.0) []) ∷ (held_of es (cond (sym n i) ls (m ∷ ls)) ++ (e, map (joined e.path) l.0) ∷ []))
    ] refl

held_alone : (es : List Entry) (ls : List Listing) (e : Entry) → is_listed e ≡ false → held_of (es ++ e ∷ []) ls ≡ held_of es ls ++ (e, []) ∷ []
held_alone [] ls e t = λ i. (e, cond (t i) (map (joined e.path) (first_names ls)) []) ∷ []
held_alone (d ∷ es) ls e t =
    ap (λ r. (d, cond (is_listed d) (map (joined d.path) (first_names ls)) []) ∷ r) (held_alone es (cond (is_listed d) (drop 1 ls) ls) e t)

all_push : {X : Type 0} (P : X → Type 0) (xs : List X) (x : X) → AllByRecursion P xs → P x → AllByRecursion P (xs ++ x ∷ [])
all_push P xs x h g = all_join P xs (x ∷ []) h (g, tt)

told_push : (tree : Option Files) (ds : List Held) (d : Held) → IfSome tree (λ files. AllByRecursion (IsDone files) ds) →
    IfSome tree (λ files. IsDone files d) → IfSome tree (λ files. AllByRecursion (IsDone files) (ds ++ d ∷ []))
told_push None ds d h g = tt
told_push (Some files) ds d h g = all_push (IsDone files) ds d h g

-- one path more was handled: the look at it is kept, and the children are pushed
pub record IsStep (tree tree' : Option Files) (c c' : ℕ) (old new : List Held) (item : List ℕ) (fresh : List (List ℕ)) (e : Entry)
    (names : Listing) : Type 0 where
  pub look : IsLook tree item c c' e names
  pub same : tree' ≡ tree
  pub kept : new ≡ old ++ (e, map (joined e.path) names.0) ∷ []
  pub pushed : fresh ≡ map (joined e.path) names.0

pub step_holds : {tree tree' : Option Files} {c c' : ℕ} {old new : List Held} {item : List ℕ} {fresh : List (List ℕ)} {e : Entry} {names : Listing} →
    IsStep tree tree' c c' old new item fresh e names → Holds tree c old → Holds tree' c' new
step_holds {tree = tree} {tree' = tree'} {c = c} {c' = c'} {old = old} {e = e} {names = names} s h =
    let look = s.look in
    let d : Held = (e, map (joined e.path) names.0) in
    let push : IsPush d = record { names = names.0; are = subst (λ p. AreNames p names.0) (sym look.at) look.are; is = refl } in
    let done : IfSome tree (λ files. IsDone files d) =
    subst (λ p. IfSome tree (λ files. IsDone files (e, map (joined p) names.0))) (sym look.at) look.told in
    let total : sum_by weight_of (entries_of (old ++ d ∷ [])) ≡ sum_by weight_of (entries_of old) + weight_of e =
    ap (sum_by weight_of) (map-append (λ (x : Held). x.0) old (d ∷ [])) ∙ sum_by_push weight_of (entries_of old) e in
    subst (Holds tree' c') (sym s.kept)
    (record {
      pushes = all_push IsPush old d h.pushes push;
      done = subst (λ t. IfSome t (λ files. AllByRecursion (IsDone files) (old ++ d ∷ []))) (sym s.same) (told_push tree old d h.done done);
      shaped = all_push (λ x. is_shaped x.0 ≡ true) old d h.shaped look.shaped;
      faults = record { kept = omega arith; rose = omega (arith, h.faults.rose, h.faults.kept, look.counted.rose, look.counted.kept, total) };
    })

pub step_log : {tree tree' : Option Files} {c c' : ℕ} {old new : List Held} {item : List ℕ} {fresh : List (List ℕ)} {e : Entry} {names : Listing} →
    IsStep tree tree' c c' old new item fresh e names → log_of new ≡ log_of old ++ (item, fresh) ∷ []
step_log {old = old} {e = e} {names = names} s =
    ap log_of s.kept ∙ map-append (λ (d : Held). (d.0.path, d.1)) old ((e, map (joined e.path) names.0) ∷ [])
    ∙ (λ i. log_of old ++ (s.look.at i, sym s.pushed i) ∷ [])

pub kept_listed : (es : List Entry) (ls : List Listing) (e : Entry) (l : Listing) (es' : List Entry) (ls' : List Listing) → es' ≡ es ++ e ∷ [] →
    ls' ≡ ls ++ l ∷ [] → count_by is_listed es ≡ length ls → is_listed e ≡ true →
    held_of es' ls' ≡ held_of es ls ++ (e, map (joined e.path) l.0) ∷ []
kept_listed es ls e l es' ls' pe pl n y = (λ i. held_of (pe i) (pl i)) ∙ held_listed es ls e l n y

pub kept_alone : (es : List Entry) (ls : List Listing) (e : Entry) (l : Listing) (es' : List Entry) → es' ≡ es ++ e ∷ [] → is_listed e ≡ false →
    l.0 ≡ [] → held_of es' ls ≡ held_of es ls ++ (e, map (joined e.path) l.0) ∷ []
kept_alone es ls e l es' pe y nothing =
    ap (λ x. held_of x ls) pe ∙ held_alone es ls e y ∙ ap (λ x. held_of es ls ++ (e, map (joined e.path) x) ∷ []) (sym nothing)

pub entries_held : (es : List Entry) (ls : List Listing) → entries_of (held_of es ls) ≡ es
entries_held [] ls = refl
entries_held (e ∷ es) ls = ap (λ r. e ∷ r) (entries_held es (cond (is_listed e) (drop 1 ls) ls))
