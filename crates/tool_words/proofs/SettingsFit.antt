-- The settings that words give are within the limits, option by option.
use Rattle.tool_words.proofs.Prelude.{◌-◌, ◌^◌, ◌≡◌, ◌≢◌, ℕ, ◌+◌, ◌≤◌, ◌<◌, Bool, true, false, cond, refl, arith, Option, Some, None, List, [], ◌∷◌, ◌++◌}
use Rattle.tool_words.proofs.Prelude.{length, ◌==◌, Result, Ok, Err, IfSome, IfOk, is_none, is_some, nat_lt, option_map, AllByRecursion, before_first}
use Rattle.tool_words.proofs.Prelude.{after_first, position_or_len, nat_tests, refusal, Condition, expr_reading, Common, Want, Refusal, OptionName, Placed}
use Rattle.tool_words.proofs.Prelude.{input, place_of, Valid, Lower, Set, set, raise, trimmed, number_in, split_in, path_in, lower_path_in, order_in, test_in}
use Rattle.tool_words.proofs.Prelude.{is_colon, if_expr, want_by, want_in, Given, and_then}
use Rattle.tool_words.proofs.Numbers.{number_within}
use Rattle.tool_words.specs.declared.tables.OptionName.TheVariants as option

pub one_of : {X : Type 0} (P : X → Type 0) (b : Bool) (x y : X) → P x → P y → P (cond b x y)
one_of P true x y h g = h
one_of P false x y h g = g

pub mapped : {A B : Type 0} (P : B → Type 0) (f : A → B) (o : Option A) → ((x : A) → o ≡ Some x → P (f x)) → IfSome (option_map f o) P
mapped P f (Some x) h = h x refl
mapped P f None h = tt

pub both : {X Y : Type 0} (P : X → Type 0) (Q : Y → Type 0) (r : Result X Refusal) (next : X → Result Y Refusal) →
    IfOk r P → ((x : X) → P x → IfOk (next x) Q) → IfOk (and_then r next) Q
both P Q (Ok x) next p q = q x p
both P Q (Err refusal) next p q = tt

pub one_more : {X : Type 0} (P : X → Type 0) (xs : List X) (x : X) → AllByRecursion P xs → P x → AllByRecursion P (xs ++ x ∷ [])
one_more P [] x h p = (p, tt)
one_more P (y ∷ xs) x h p = (h.0, one_more P xs x h.1 p)

abbrev pub FileValid : Want → Type 0
FileValid want = Valid want.file

-- the numbers of a run are within the limits, whatever is told of it
pub record Fits (common : Common) : Type 0 where
  pub ranks : (1 ≤ common.ranks) × (common.ranks ≤ 64)
  pub hosts : (1 ≤ common.hosts) × (common.hosts ≤ 64)
  pub seed : common.seed < 2 ^ 64
  pub width : (2 ≤ common.width) × (common.width ≤ 64)

-- a number of paths, or of bytes
abbrev pub Counts : ℕ → Type 0
Counts n = (1 ≤ n) × (n < 2 ^ 63)

-- what has limits of all that is set
pub record Sound (how : Common) (from to : Option (List ℕ)) (since : List (List ℕ)) (saved : List Want) (piece after : Option ℕ)
    (folder : Option (List ℕ)) : Type 0 where
  pub common : Fits how
  pub input : IfSome from Valid
  pub output : IfSome to Valid
  pub newer : AllByRecursion Valid since
  pub wants : AllByRecursion FileValid saved
  pub range : IfSome piece Counts
  pub stop : IfSome after Counts
  pub lists : IfSome folder Valid

abbrev pub Fine : Set → Type 0
Fine s = Sound s.common s.input s.output s.newer s.wants s.range s.stop_after s.lists

-- a number of nodes that a made-up tree may have
abbrev pub Makeable : ℕ → Type 0
Makeable n = (1 ≤ n) × (n ≤ 1000000)

-- where a trace is asked for, its option stands among these
abbrev pub Stands : List Placed → Set → Type 0
Stands options s = s.common.trace ≡ true → is_some (place_of option.Trace options) ≡ true

pub record FineSoFar (given : Given) : Type 0 where
  pub settings : Fine given.settings
  pub paths : AllByRecursion Valid given.paths
  pub lower : AllByRecursion Lower given.lower
  pub numbers : AllByRecursion Makeable given.numbers
  pub trace : Stands given.options given.settings

pub valid_if : (path : List ℕ) → is_none (refusal path) ≡ true → Valid path
valid_if path h = grind arith

pub path_valid : (word : List ℕ) → IfSome (path_in word) Valid
path_valid word =
    elim (is_none (refusal (trimmed word))) as (λ b. is_none (refusal (trimmed word)) ≡ b → IfSome (cond b (Some (trimmed word)) None) Valid) [
      | true ↦ λ e. valid_if (trimmed word) e
      | false ↦ λ e. tt
    ] refl

pub the_path : (word path : List ℕ) → path_in word ≡ Some path → Valid path
the_path word path e = let h = path_valid word in rw e at h

pub not_one : (n : ℕ) → (n == 1) ≡ false → n ≢ 1
not_one n e = grind (arith, nat_tests)

pub trimmed_lower : (word : List ℕ) → (length (trimmed word) == 1) ≡ false → IfSome (path_in word) Lower
trimmed_lower word off =
    elim (is_none (refusal (trimmed word))) as (λ b. is_none (refusal (trimmed word)) ≡ b → IfSome (cond b (Some (trimmed word)) None) Lower) [
      | true ↦ λ e. (valid_if (trimmed word) e, not_one (length (trimmed word)) off)
      | false ↦ λ e. tt
    ] refl

pub path_lower : (word : List ℕ) → IfSome (lower_path_in word) Lower
path_lower word =
    elim (length (trimmed word) == 1) as (λ b. (length (trimmed word) == 1) ≡ b → IfSome (cond b None (path_in word)) Lower) [
      | true ↦ λ e. tt
      | false ↦ trimmed_lower word
    ] refl

pub want_by_valid : (expr : Option (List (List Condition))) (file : Option (List ℕ)) → IfSome file Valid → IfSome (want_by expr file) FileValid
want_by_valid (Some expr) (Some file) v = v
want_by_valid (Some expr) None v = tt
want_by_valid None file v = tt

pub want_valid : (text : List ℕ) → IfSome (want_in text) FileValid
want_valid text =
    let file = after_first is_colon text in
    one_of (λ o. IfSome o FileValid) (nat_lt (position_or_len is_colon text) (length text)) _ _
    (want_by_valid (if_expr (expr_reading (before_first is_colon text))) (path_in file) (path_valid file))
    tt

pub the_want : (text : List ℕ) (want : Want) → want_in text ≡ Some want → FileValid want
the_want text want e = let h = want_valid text in rw e at h

-- what is set stays fine where one part of it changes

sound : {how : Common} {from to : Option (List ℕ)} {since : List (List ℕ)} {saved : List Want} {piece after : Option ℕ} {folder : Option (List ℕ)} →
    Fits how → IfSome from Valid → IfSome to Valid → AllByRecursion Valid since → AllByRecursion FileValid saved → IfSome piece Counts →
    IfSome after Counts → IfSome folder Valid → Sound how from to since saved piece after folder
sound c i o n w r s l = record { common = c; input = i; output = o; newer = n; wants = w; range = r; stop = s; lists = l }

pub with_common : (s : Set) (common : Common) → Fine s → Fits common → Fine (record s { common = common })
with_common s common f c = sound c f.input f.output f.newer f.wants f.range f.stop f.lists

pub with_input : (s : Set) (path : List ℕ) → Fine s → Valid path → Fine (record s { input = Some path })
with_input s path f v = sound f.common v f.output f.newer f.wants f.range f.stop f.lists

pub with_output : (s : Set) (path : List ℕ) → Fine s → Valid path → Fine (record s { output = Some path })
with_output s path f v = sound f.common f.input v f.newer f.wants f.range f.stop f.lists

pub with_newer : (s : Set) (path : List ℕ) → Fine s → Valid path → Fine (record s { newer = s.newer ++ path ∷ [] })
with_newer s path f v = sound f.common f.input f.output (one_more Valid s.newer path f.newer v) f.wants f.range f.stop f.lists

pub with_want : (s : Set) (want : Want) → Fine s → FileValid want → Fine (record s { wants = s.wants ++ want ∷ [] })
with_want s want f v = sound f.common f.input f.output f.newer (one_more FileValid s.wants want f.wants v) f.range f.stop f.lists

pub with_range : (s : Set) (n : ℕ) → Fine s → (1 ≤ n) × (n ≤ 2 ^ 63 - 1) → Fine (record s { range = Some n })
with_range s n f w = sound f.common f.input f.output f.newer f.wants (w.0, omega (arith, w.1)) f.stop f.lists

pub with_stop : (s : Set) (n : ℕ) → Fine s → (1 ≤ n) × (n ≤ 2 ^ 63 - 1) → Fine (record s { stop_after = Some n })
with_stop s n f w = sound f.common f.input f.output f.newer f.wants f.range (w.0, omega (arith, w.1)) f.lists

pub with_lists : (s : Set) (path : List ℕ) → Fine s → Valid path → Fine (record s { lists = Some path })
with_lists s path f v = sound f.common f.input f.output f.newer f.wants f.range f.stop v

pub ranks_fine : (common : Common) (n : ℕ) → Fits common → (1 ≤ n) × (n ≤ 64) → Fits (record common { ranks = n })
ranks_fine common n c w = record { ranks = w; hosts = c.hosts; seed = c.seed; width = c.width }

pub hosts_fine : (common : Common) (n : ℕ) → Fits common → (1 ≤ n) × (n ≤ 64) → Fits (record common { hosts = n })
hosts_fine common n c w = record { ranks = c.ranks; hosts = w; seed = c.seed; width = c.width }

pub seed_fine : (common : Common) (n : ℕ) → Fits common → (0 ≤ n) × (n ≤ 2 ^ 64 - 1) → Fits (record common { seed = n })
seed_fine common n c w = record { ranks = c.ranks; hosts = c.hosts; seed = omega (arith, w.1); width = c.width }

pub width_fine : (common : Common) (n : ℕ) → Fits common → (2 ≤ n) × (n ≤ 64) → Fits (record common { width = n })
width_fine common n c w = record { ranks = c.ranks; hosts = c.hosts; seed = c.seed; width = w }

-- what else is told of a walk has no limits
pub same_limits : (common other : Common) → Fits common →
    other.ranks ≡ common.ranks → other.hosts ≡ common.hosts → other.seed ≡ common.seed → other.width ≡ common.width → Fits other
same_limits common other c r h s w = record {
  ranks = (omega arith, omega arith);
  hosts = (omega arith, omega arith);
  seed = omega arith;
  width = (omega arith, omega arith);
}

pub set_fine : (option : OptionName) (text : List ℕ) (s : Set) → Fine s → IfSome (set option text s) Fine
set_fine option.Ranks text s f = mapped Fine _ (number_in 1 64 text) (λ n e. with_common s _ f (ranks_fine s.common n f.common (number_within 1 64 text n e)))
set_fine option.Hosts text s f = mapped Fine _ (number_in 1 64 text) (λ n e. with_common s _ f (hosts_fine s.common n f.common (number_within 1 64 text n e)))
set_fine option.Split text s f = mapped Fine _ (split_in text) (λ split e. with_common s _ f (same_limits s.common _ f.common refl refl refl refl))
set_fine option.Seed text s f =
    mapped Fine _ (number_in 0 (2 ^ 64 - 1) text) (λ n e. with_common s _ f (seed_fine s.common n f.common (number_within 0 (2 ^ 64 - 1) text n e)))
set_fine option.Width text s f = mapped Fine _ (number_in 2 64 text) (λ n e. with_common s _ f (width_fine s.common n f.common (number_within 2 64 text n e)))
set_fine option.Trace text s f = tt
set_fine option.Shares text s f = tt
set_fine option.Progress text s f = tt
set_fine option.Sort text s f = mapped Fine _ (order_in text) (λ order e. f)
set_fine option.Input text s f = mapped Fine _ (path_in text) (λ path e. with_input s path f (the_path text path e))
set_fine option.Output text s f = mapped Fine _ (path_in text) (λ path e. with_output s path f (the_path text path e))
set_fine (option.Test name) text s f = mapped Fine _ (test_in name text) (λ test e. f)
set_fine option.Newer text s f = mapped Fine _ (path_in text) (λ path e. with_newer s path f (the_path text path e))
set_fine option.Want text s f = mapped Fine _ (want_in text) (λ want e. with_want s want f (the_want text want e))
set_fine option.Dryrun text s f = tt
set_fine option.Delete text s f = tt
set_fine option.Range text s f =
    mapped Fine _ (number_in 1 (2 ^ 63 - 1) text) (λ n e. with_range s n f (number_within 1 (2 ^ 63 - 1) text n e))
set_fine option.StopAfter text s f =
    mapped Fine _ (number_in 1 (2 ^ 63 - 1) text) (λ n e. with_stop s n f (number_within 1 (2 ^ 63 - 1) text n e))
set_fine option.Lists text s f = mapped Fine _ (path_in text) (λ path e. with_lists s path f (the_path text path e))
set_fine option.Restart text s f = tt

pub raise_fine : (option : OptionName) (s : Set) → Fine s → IfSome (raise option s) Fine
raise_fine option.Trace s f = with_common s _ f (same_limits s.common _ f.common refl refl refl refl)
raise_fine option.Shares s f = with_common s _ f (same_limits s.common _ f.common refl refl refl refl)
raise_fine option.Progress s f = with_common s _ f (same_limits s.common _ f.common refl refl refl refl)
raise_fine option.Dryrun s f = f
raise_fine option.Delete s f = f
raise_fine option.Restart s f = f
raise_fine _ s f = tt

-- a value leaves the trace as it was
abbrev pub SameTrace : Set → Set → Type 0
SameTrace s t = t.common.trace ≡ s.common.trace

pub set_leaves : (option : OptionName) (text : List ℕ) (s : Set) → IfSome (set option text s) (SameTrace s)
set_leaves option.Ranks text s = mapped (SameTrace s) _ (number_in 1 64 text) (λ n e. refl)
set_leaves option.Hosts text s = mapped (SameTrace s) _ (number_in 1 64 text) (λ n e. refl)
set_leaves option.Split text s = mapped (SameTrace s) _ (split_in text) (λ split e. refl)
set_leaves option.Seed text s = mapped (SameTrace s) _ (number_in 0 (2 ^ 64 - 1) text) (λ n e. refl)
set_leaves option.Width text s = mapped (SameTrace s) _ (number_in 2 64 text) (λ n e. refl)
set_leaves option.Trace text s = tt
set_leaves option.Shares text s = tt
set_leaves option.Progress text s = tt
set_leaves option.Sort text s = mapped (SameTrace s) _ (order_in text) (λ order e. refl)
set_leaves option.Input text s = mapped (SameTrace s) _ (path_in text) (λ path e. refl)
set_leaves option.Output text s = mapped (SameTrace s) _ (path_in text) (λ path e. refl)
set_leaves (option.Test name) text s = mapped (SameTrace s) _ (test_in name text) (λ test e. refl)
set_leaves option.Newer text s = mapped (SameTrace s) _ (path_in text) (λ path e. refl)
set_leaves option.Want text s = mapped (SameTrace s) _ (want_in text) (λ want e. refl)
set_leaves option.Dryrun text s = tt
set_leaves option.Delete text s = tt
set_leaves option.Range text s = mapped (SameTrace s) _ (number_in 1 (2 ^ 63 - 1) text) (λ n e. refl)
set_leaves option.StopAfter text s = mapped (SameTrace s) _ (number_in 1 (2 ^ 63 - 1) text) (λ n e. refl)
set_leaves option.Lists text s = mapped (SameTrace s) _ (path_in text) (λ path e. refl)
set_leaves option.Restart text s = tt
