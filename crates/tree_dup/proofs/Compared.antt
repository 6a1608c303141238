-- Runs that workers compared.
use Rattle.tree_dup.proofs.Prelude.{◌≡◌, ℕ, suc, ◌+◌, ◌<◌, ◌≤◌, false, List, [], ◌∷◌, length, map, take, drop, get_or, refl, sym, ap, subst, ◌∙◌, arith, All}
use Rattle.tree_dup.proofs.Prelude.{IfSome, Option, length-take-le, length-drop, drop-take, take-take, sum_by-cons, Asks, Files, File, Comparison, Standing}
use Rattle.tree_dup.proofs.Prelude.{Alike, AreStandings, StandFrom, StandFor, standing_of, standing_other, faults_in, failures, failures_of, still, Went, Shows}
use Rattle.tree_dup.proofs.Prelude.{IsThere, AreSettled, is_other}
use Rattle.tree_dup.proofs.Classes.{alike_shows, still_alike}

none : File
none = record { path = []; size = 0; hash = 0; standing = Alike }

pub twice_still : (files : List File) → map still (map still files) ≡ map still files
twice_still [] = refl
twice_still (f ∷ files) = ap (λ fs. still f ∷ fs) (twice_still files)

pub faults_are : (files : List File) → faults_in (map standing_of files) ≡ failures files
faults_are [] = refl
faults_are (f ∷ files) =
    omega (
      arith,
      sum_by-cons failures_of f.standing (map standing_of files),
      sum_by-cons (λ (x : File). failures_of x.standing) f files,
      faults_are files,
    )

pub same_run : (run' run new : List File) (standings : List Standing) → map standing_of run' ≡ standings → map still run' ≡ map still run →
    length new ≡ length run →
    ((k : ℕ) (d : File) (s : Standing) → k < length run → get_or new k d ≡ record (get_or run k d) { standing = get_or standings k s }) →
    new ≡ run'
same_run run' run new standings are same long each = by run' run new standings are same long each
  where
    by : (run' run new : List File) (standings : List Standing) → map standing_of run' ≡ standings → map still run' ≡ map still run →
        length new ≡ length run →
        ((k : ℕ) (d : File) (s : Standing) → k < length run → get_or new k d ≡ record (get_or run k d) { standing = get_or standings k s }) →
        new ≡ run'
    by [] [] [] standings are same long each = refl
    by [] [] (x ∷ new) standings are same long each = absurd (omega arith)
    by [] (g ∷ run) new standings are same long each = absurd (omega (arith, ap (λ (fs : List File). length fs) same))
    by (f ∷ run') [] new standings are same long each = absurd (omega (arith, ap (λ (fs : List File). length fs) same))
    by (f ∷ run') (g ∷ run) [] standings are same long each = absurd (omega arith)
    by (f ∷ run') (g ∷ run) (x ∷ new) standings are same long each =
        let first : x ≡ record g { standing = get_or standings 0 Alike } = each 0 none Alike (omega arith) in
        let here : get_or standings 0 Alike ≡ f.standing = ap (λ ss. get_or ss 0 Alike) (sym are) in
        let g_is : still g ≡ still f = ap (λ (fs : List File). get_or fs 0 none) (sym same) in
        let f_is : x ≡ f = first ∙ (λ i. record g { standing = here i }) ∙ (λ i. record (g_is i) { standing = f.standing }) in
        let rest : new ≡ run' = by run' run new (map standing_of run') refl (ap (λ (fs : List File). drop 1 fs) same) (omega arith)
        (λ k d s l. each (suc k) d s (omega (arith, l)) ∙ (λ i. record (get_or run k d) { standing = get_or (sym are i) (suc k) s })) in
        λ i. f_is i ∷ rest i

-- the run that begins at a place, in front of others that are gone
pub run_at : (files whole : List File) (start : ℕ) (n : ℕ) → files ≡ take (length files) whole → n ≡ length (drop start files) → start ≤ length files →
    take n (drop start whole) ≡ drop start files
run_at files whole start n e is inside =
    let m : length files ≡ start + n = omega (arith, is, inside, length-drop start files) in
    sym (drop-take start n whole) ∙ (λ i. drop start (take (sym m i) whole)) ∙ ap (drop start) (sym e)

-- what a worker comes to with a run
pub compared : {R : Type 0} (tree : R → Option Files) (count : R → ℕ) (gives : Asks R) (r r' : R) (size : ℕ) (base run run' : List File)
    (digest : List ℕ) (standings : List Standing) → run ≡ base → map still base ≡ base → Went tree count gives r r' run run' →
    IfSome (tree r) (λ files. All (IsThere files) run → AreSettled files digest run') → (size ≡ 0 → run' ≡ run) →
    ((d : File) → 0 < length run → is_other (get_or run 0 d) ≡ false → is_other (get_or run' 0 d) ≡ false) →
    All (λ f. f.size ≡ size) base → 0 < length base → standings ≡ map standing_of run' → AreStandings (tree r) gives base digest standings
compared tree count gives r r' size base run run' digest standings e alike went settled empty front sizes some are = record {
  run' = run';
  are = sym are;
  same = went.files ∙ ap (map still) e;
  shows = went.shows (subst (All (Shows gives)) (sym e) (alike_shows gives base alike));
  settled = subst (λ fs. IfSome (tree r) (λ files. All (IsThere files) fs → AreSettled files digest run')) e settled;
  empty = λ z. empty (sym (sizes 0 none some) ∙ z 0 none some) ∙ e;
  front = λ d l. front d (omega (arith, l, ap (λ (fs : List File). length fs) e))
      (ap (λ fs. is_other (get_or fs 0 d)) e ∙ ap standing_other (still_alike base alike 0 d l));
}

-- the standings of a run that was cut off the end
pub stand_for : {S : Type 0} (tree : Option Files) (gives : Asks S) (files whole run : List File) (start : ℕ) (c : Comparison) →
    files ≡ take (length files) whole → run ≡ drop start files → start ≤ length files → map still run ≡ run →
    StandFrom tree gives whole start c → StandFor tree gives run c
stand_for tree gives files whole run start c e is inside alike h = λ as_many.
    let at : take (length c.standings.items) (drop start whole) ≡ drop start files =
    run_at files whole start (length c.standings.items) e (as_many ∙ ap (λ (fs : List File). length fs) is) inside in
    subst (λ fs. AreStandings tree gives fs c.digest c.standings.items) (ap (map still) (at ∙ sym is) ∙ alike) h

-- the files that stay where a run is cut off the end
pub front_cut : (files whole left : List File) (start : ℕ) → files ≡ take (length files) whole → left ≡ take start files → start ≤ length files →
    left ≡ take (length left) whole
front_cut files whole left start e f inside =
    let long : length left ≡ start = ap (λ (fs : List File). length fs) f ∙ length-take-le start files inside in
    f ∙ ap (take start) e ∙ take-take start (length files) whole inside ∙ (λ i. take (sym long i) whole)

pub sizes_none : (size : ℕ) (files : List File) → size ≡ 0 → All (λ f. f.size ≡ size) files → All (λ f. f.size ≡ 0) files
sizes_none size files z h = λ k d l. h k d l ∙ z
