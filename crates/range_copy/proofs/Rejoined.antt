-- A file that was out in spans is back: it has the bytes of the source, and nothing else has changed.
use Rattle.range_copy.proofs.Prelude.{◌≡◌, ℕ, Bool, true, false, not, cond, ◌||◌, List, [], ◌∷◌, ◌++◌, map, Option, Some, None, IfSome, refl, ap, ◌∙◌, sym}
use Rattle.range_copy.proofs.Prelude.{subst, arith, is_some, nat_eq, IfOk, false≢true, All-from_recursion, get, get-retain_keys, All, AllByRecursion}
use Rattle.range_copy.proofs.Prelude.{option_map, pointwise, is_under, refusal, path_cmp_same, in_tops, kept, UnderDirectories, IsRejoined, Piece, are_cuts}
use Rattle.range_copy.proofs.Prelude.{area_cut, cuts_in, joined_bytes, pieces, zeros_of, Files, IsTree, Node, Body, dir, file, link, other, content, is_dir}
use Rattle.range_copy.proofs.Prelude.{is_file, Area, SameBut, new_file, nothing_lent, HasBytes, IsSource, SpansComeBack, HasRange, IsShort, FilledAs, came_of}
use Rattle.range_copy.proofs.Prelude.{end_of, joined, ranges_of, Filled, at_itself}
use Rattle.range_copy.specs.declared.filled.Filled.TheVariants as filled
use Rattle.range_copy.proofs.Cover.{cover}
use Rattle.range_copy.proofs.Joined.{joined_all}

-- nothing stands under what is no directory

none_of : {X : Type 0} (o : Option X) → (is_some o ≡ true → ⊥) → o ≡ None
none_of None h = refl
none_of (Some x) h = absurd (h refl)

none_under : UnderDirectories → (p q : List ℕ) (files : Files) → refusal p ≡ None → IsTree files → is_under q p ≡ true → is_dir (get files p) ≡ false →
    get files q ≡ None
none_under law p q files v tree u off = none_of (get files q) (λ some. false≢true (sym off ∙ law files q p tree v u some))

file_no_dir : (o : Option Node) → is_file o ≡ true → is_dir o ≡ false
file_no_dir None f = absurd (false≢true f)
file_no_dir (Some n) f = by n.body f
  where
    by : (b : Body) → Rattle.outside.specs.Tree.is_file_body b ≡ true → Rattle.outside.specs.Tree.is_dir_body b ≡ false
    by (dir far) f = absurd (false≢true f)
    by (file bytes) f = refl
    by (link text) f = refl
    by other f = refl

get_kept : (p q : List ℕ) (files : Files) → get (kept (p ∷ []) files) q ≡ cond (not (in_tops (p ∷ []) q)) (get files q) None
get_kept p q files = get-retain_keys files (λ q. not (in_tops (p ∷ []) q)) q (λ x e. ap (λ y. not (in_tops (p ∷ []) y)) (sym (path_cmp_same q x e)))

under_by : (a b : Bool) → a ≡ false → ((a || b) || false) ≡ true → b ≡ true
under_by true b e h = absurd (false≢true (sym e))
under_by false true e h = refl
under_by false false e h = h

one_rejoined : UnderDirectories → (p bytes : List ℕ) (before after : Files) → refusal p ≡ None → IsTree before → IsTree after →
    get before p ≡ Some (new_file []) → IsRejoined p bytes (kept (p ∷ []) before) after → SameBut p before after
one_rejoined law p bytes before after v tree tree' empty r q off =
    elim (in_tops (p ∷ []) q) as (λ b. in_tops (p ∷ []) q ≡ b → get after q ≡ get before q) [
      | false ↦ λ out. r.rest q out ∙ get_kept p q before ∙ ap (λ b. cond (not b) (get before q) None) out
      | true ↦ λ inn.
          let u = under_by (pointwise nat_eq q p) (is_under q p) off inn in
          none_under law p q after v tree' u (file_no_dir (get after p) r.is_file)
          ∙ sym (none_under law p q before v tree u (ap is_dir empty))
    ] refl

-- the law: spans that have the ranges of some bytes come back as a file of these bytes

told_ranges : (ranges : List (List ℕ)) → joined_bytes (map (λ range. Some range) ranges) ≡ joined ranges
told_ranges [] = refl
told_ranges (one ∷ ranges) = ap (λ rest. one ++ rest) (told_ranges ranges)

pub come_back : UnderDirectories → SpansComeBack
come_back law path cuts bytes before after v tree tree' empty are whole r = (
  record { is_file = r.is_file; same = r.same ∙ told_ranges (ranges_of cuts bytes) ∙ cover cuts bytes are whole },
  one_rejoined law path (joined_bytes (map (λ range. Some range) (ranges_of cuts bytes))) before after v tree tree' empty r,
)

-- what is known of the three trees: before the lease, while the file is out, and when it is back
pub record Came (p bytes : List ℕ) (t t1 t2 : Option Files) : Type 0 where
  pub law : UnderDirectories
  pub valid : refusal p ≡ None
  pub tree : IfSome t IsTree
  pub tree' : IfSome t2 IsTree
  pub empty : IfSome t (λ files. get files p ≡ Some (new_file []))
  pub out : t1 ≡ option_map (kept (p ∷ [])) t
  pub back : IfSome t1 (λ rest. IfSome t2 (IsRejoined p bytes rest))

pub others : (p bytes : List ℕ) (t t1 t2 : Option Files) → Came p bytes t t1 t2 → IfSome t (λ before. IfSome t2 (SameBut p before))
others p bytes None t1 t2 c = tt
others p bytes (Some before) t1 t2 c = by t2 c.tree' (subst (λ o. IfSome o (λ rest. IfSome t2 (IsRejoined p bytes rest))) c.out c.back)
  where
    by : (t2 : Option Files) → IfSome t2 IsTree → IfSome t2 (IsRejoined p bytes (kept (p ∷ []) before)) → IfSome t2 (SameBut p before)
    by None tree r = tt
    by (Some after) tree r = one_rejoined c.law p bytes before after c.valid c.tree tree c.empty r

-- the file is out where it was cut

pub is_out : (area : Area) (p : List ℕ) (cuts : List ℕ) → area ≡ area_cut p cuts nothing_lent → cuts_in p area ≡ Some cuts
is_out area p cuts e = ap (cuts_in p) e ∙ ap (λ b. cond b (Some cuts) None) (at_itself p)

pub is_whole : (area area' : Area) (p : List ℕ) (cuts : List ℕ) → area ≡ area_cut p cuts nothing_lent →
    area' ≡ Rattle.outside.specs.Spans.area_whole p area → area' ≡ nothing_lent
is_whole area area' p cuts e f = f ∙ ap (Rattle.outside.specs.Spans.area_whole p) e
    ∙ ap (λ b. Rattle.outside.specs.Writes.all_but [] (cond b [] (record { path = p; cuts = cuts } ∷ []))) (at_itself p)

-- spans tell their bytes where the files tell their tree

module _ {S : Type 0} (piece : S → Piece) (holds : S → Option (List ℕ)) where
  abbrev pub Alike : Option Files → List S → Type 0
  Alike t spans = AllByRecursion (λ s. is_some (holds s) ≡ is_some t) spans

  zeros_alike : (t : Option Files) (p : Piece) → is_some (zeros_of t p) ≡ is_some t
  zeros_alike None p = refl
  zeros_alike (Some files) p = refl

  pub new_alike : (t : Option Files) (spans : List S) (ps : List Piece) → map holds spans ≡ map (zeros_of t) ps → Alike t spans
  new_alike t [] ps e = tt
  new_alike t (s ∷ spans) [] e = cc
  new_alike t (s ∷ spans) (p ∷ ps) e =
      let here : holds s ≡ zeros_of t p = cc in
      let rest : map holds spans ≡ map (zeros_of t) ps = cc in
      (ap is_some here ∙ zeros_alike t p, new_alike t spans ps rest)

  pub still_alike : (t : Option Files) (spans done : List S) → map (λ s. is_some (holds s)) done ≡ map (λ s. is_some (holds s)) spans → Alike t spans →
      Alike t done
  still_alike t spans [] e h = tt
  still_alike t [] (d ∷ done) e h = cc
  still_alike t (s ∷ spans) (d ∷ done) e h =
      let here : is_some (holds d) ≡ is_some (holds s) = cc in
      let rest : map (λ s. is_some (holds s)) done ≡ map (λ s. is_some (holds s)) spans = cc in
      (here ∙ h.0, still_alike t spans done rest h.1)

  pub all_alike : (t t1 : Option Files) (spans : List S) → is_some t1 ≡ is_some t → Alike t spans → All (λ s. is_some (holds s) ≡ is_some t1) spans
  all_alike t t1 spans e h = All-from_recursion (λ s. is_some (holds s) ≡ is_some t1) spans (by spans h)
    where
      by : (spans : List S) → Alike t spans → AllByRecursion (λ s. is_some (holds s) ≡ is_some t1) spans
      by [] h = tt
      by (s ∷ spans) h = (h.0 ∙ sym e, by spans h.1)

  alike_told : (files : Files) (spans : List S) → Alike (Some files) spans → AllByRecursion (λ s. is_some (holds s) ≡ true) spans
  alike_told files [] h = tt
  alike_told files (s ∷ spans) h = (h.0, alike_told files spans h.1)

  -- what the file has then
  pub has_bytes : (seen t t1 t2 : Option Files) (p source : List ℕ) (size : ℕ) (cuts : List ℕ) (done : List S) → is_some t1 ≡ is_some t →
      is_some t2 ≡ is_some t1 → IfSome seen (IsSource source size) → map piece done ≡ pieces p cuts → are_cuts cuts ≡ true → end_of cuts ≡ size →
      Alike t done → AllByRecursion (HasRange piece holds source seen) done →
      IfSome t1 (λ rest. IfSome t2 (IsRejoined p (joined_bytes (map holds done)) rest)) →
      IfSome seen (λ files. IfSome t2 (λ after. HasBytes (content (get files source)) (get after p)))
  has_bytes None t t1 t2 p source size cuts done e f is are c l a h r = tt
  has_bytes (Some files) t t1 None p source size cuts done e f is are c l a h r = tt
  has_bytes (Some files) t None (Some after) p source size cuts done e f is are c l a h r = absurd (false≢true (sym f))
  has_bytes (Some files) None (Some rest) (Some after) p source size cuts done e f is are c l a h r = absurd (false≢true (sym e))
  has_bytes (Some files) (Some before) (Some rest) (Some after) p source size cuts done e f is are c l a h r = record {
    is_file = r.is_file;
    same = r.same ∙ joined_all piece holds p source files cuts done are c (l ∙ sym is.size_is) (alike_told before done a) h;
  }

-- what it came to

short_not : (source : List ℕ) (size : ℕ) (files : Files) → IsSource source size files → IsShort source size files → ⊥
short_not source size files is short = omega (arith, short is.is_file, is.size_is)

pub came_told : (seen t2 : Option Files) (p source : List ℕ) (size : ℕ) (f : Filled) → IfSome seen (IsSource source size) →
    (f ≡ filled.Done → IfSome seen (λ files. IfSome t2 (λ after. HasBytes (content (get files source)) (get after p)))) →
    (f ≡ filled.Changed → IfSome seen (IsShort source size)) →
    IfOk (came_of f) (λ came. IfSome seen (λ files. IfSome t2 (λ after. FilledAs (content (get files source)) (get after p) came)))
came_told None t2 p source size filled.Done is done short = tt
came_told None t2 p source size filled.Failed is done short = tt
came_told None t2 p source size filled.Changed is done short = tt
came_told None t2 p source size filled.Lost is done short = tt
came_told (Some files) t2 p source size filled.Done is done short = done refl
came_told (Some files) t2 p source size filled.Failed is done short = by t2
  where
    by : (t2 : Option Files) → IfSome t2 (λ after. Rattle.std.specs.Prelude.⊤)
    by None = tt
    by (Some after) = tt
came_told (Some files) t2 p source size filled.Changed is done short = absurd (short_not source size files is (short refl))
came_told (Some files) t2 p source size filled.Lost is done short = tt
