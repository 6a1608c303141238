-- An empty file that is made at a path, in place of none or of a file.
use Rattle.range_copy.proofs.Prelude.{◌≡◌, ℕ, Bool, true, false, not, cond, ◌||◌, ◌&&◌, List, [], Option, Some, None, IfSome, refl, ap, ◌∙◌, sym, subst, arith}
use Rattle.range_copy.proofs.Prelude.{is_some, length, nat_eq, Result, Ok, Err, IfOk, IsTrue, false≢true, get, insert, pointwise, bytes_decides, parent_of}
use Rattle.range_copy.proofs.Prelude.{refusal, parent_under, under_longer, Files, is_dir, is_root, Area, in_area, is_open, is_top, make_refusal, new_file, Gone}
use Rattle.range_copy.proofs.Prelude.{answered, free, put_here, put_others, Came, RangeError, Leaves, MadeAs, ReplacedAs, freed, both_told}
use Rattle.outside.specs.declared.plots.WriteError.TheVariants as write
use Rattle.range_copy.specs.declared.came.Came.TheVariants as came

pub made : (area : Area) (p : List ℕ) (t t' : Option Files) →
    IfSome t (λ files. (make_refusal area files p ≡ None) × (t' ≡ Some (insert files p (new_file [])))) →
    IfSome t (λ files. IfSome t' (Leaves MadeAs p (Ok came.Done) files))
made area p t t' = answered (λ files. make_refusal area files p) (λ files. insert files p (new_file [])) (Leaves MadeAs p (Ok came.Done)) t t'
    (λ files r. record {
      others = put_others p (new_file []) files;
      meant = (free (get files p) (cond (is_top area p || is_dir (get files (parent_of p))) None (Some write.NoParent)) r, put_here p (new_file []) files);
    })

-- a path is not its parent
low : (area : Area) (p : List ℕ) → is_open area p ≡ true → is_root p ≡ false
low area p o = by (in_area area p) (is_root p) o
  where
    by : (a b : Bool) → (a && not b) ≡ true → b ≡ false
    by true true e = absurd (false≢true e)
    by true false e = refl
    by false b e = absurd (false≢true e)

pub parent_off : (p : List ℕ) → refusal p ≡ None → is_root p ≡ false → pointwise nat_eq (parent_of p) p ≡ false
parent_off p v r = by (pointwise nat_eq (parent_of p) p) refl
  where
    by : (b : Bool) → pointwise nat_eq (parent_of p) p ≡ b → b ≡ false
    by false e = refl
    by true e = absurd (omega (arith, under_longer p (parent_of p) (parent_under p v r), ap length ((bytes_decides (parent_of p) p).0 e)))

-- the parent of what is gone still stands
pub stands_still : (area : Area) (p : List ℕ) (t t' : Option Files) → refusal p ≡ None → IsTrue (is_open area p) → is_some t' ≡ is_some t →
    IfSome t (λ files. is_dir (get files (parent_of p)) ≡ true) → IfSome t (λ files. IfSome t' (Gone p files)) →
    IfSome t' (λ files. is_dir (get files (parent_of p)) ≡ true)
stands_still area p None None v o e stand gone = tt
stands_still area p None (Some after) v o e stand gone = absurd (false≢true (sym e))
stands_still area p (Some files) None v o e stand gone = tt
stands_still area p (Some files) (Some after) v o e stand gone =
    ap is_dir (gone.others (parent_of p) (parent_off p v (low area p o))) ∙ stand

-- and then an empty file was made there, or it was not
pub replaced : (p : List ℕ) (r r' : Result Came RangeError) → r' ≡ freed r → (t0 t1 t2 : Option Files) → is_some t1 ≡ is_some t0 →
    IfSome t0 (λ a. IfSome t1 (Gone p a)) → IfSome t1 (λ b. IfSome t2 (Leaves MadeAs p r b)) → IfSome t0 (λ a. IfSome t2 (Leaves ReplacedAs p r' a))
replaced p r r' is t0 t1 t2 e g m =
    both_told (Gone p) (Leaves MadeAs p r) (Leaves ReplacedAs p r') t0 t1 t2 e
    (λ a b c gone made. record {
      others = λ q off. made.others q off ∙ gone.others q off;
      meant = subst (λ r. IfOk r (λ f. ReplacedAs p f a c)) (sym is) (by a b c gone.none r made.meant);
    }) g m
  where
    by : (a b c : Files) → get b p ≡ None → (r : Result Came RangeError) → IfOk r (λ f. MadeAs p f b c) → IfOk (freed r) (λ f. ReplacedAs p f a c)
    by a b c n (Ok came.Done) h = h.1
    by a b c n (Ok came.Failed) h = tt
    by a b c n (Ok came.Conflict) h = absurd (false≢true (sym (ap is_some n) ∙ h.0))
    by a b c n (Ok came.Changed) h = absurd h
    by a b c n (Err e) h = tt
