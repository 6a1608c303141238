use Rattle.tree_walk.proofs.Prelude.{◌≡◌, ◌∙◌, ℕ, true, false, ap, sym, subst, Option, Some, IfSome, List, [], Listing, is_listed, Files, IsAnswered, by_stat}
use Rattle.tree_walk.proofs.Prelude.{by_link, by_list, is_linked, IsLook}
use Rattle.path_text.proofs.Parts as parts
use Rattle.outside.specs.Asked as asked
use Rattle.tree_walk.proofs.Caused.{by_stat_alone, by_stat_and_link, by_stat_and_list}
use Rattle.tree_walk.proofs.Looked.{IsStat, IsListing, IsReading, stat_at, stat_alone, stat_and_link, stat_and_list}
use Rattle.tree_walk.proofs.looking.look.Given as given
use Rattle.tree_walk.proofs.looking.look.Goals as goal
use Rattle.tree_walk.proofs.looking.look.Goals.{After-stat-stat, After-by_stat-entry, After-read_link-text, After-list-names, After-is_listed}
use Rattle.tree_walk.proofs.looking.look.Goals.{In-Some, In-Some-by_list}

-- ---- what the calls tell

stat_of : (g : given.Over) (c : After-stat-stat g)
    → IsStat (g.R.Tree.tree c.args.reader.now) c.args.path (g.R.Tree.count c.args.reader.now) (g.R.Tree.count c.stat-stat.new.self) c.stat-stat.result
stat_of g c = record {
  valid = c.stat-stat.ensures.valid;
  short = parts.short c.args.path c.text-text.ensures.valid;
  told = c.stat-stat.ensures.told;
  size = c.stat-stat.ensures.size;
  ok = c.stat-stat.ensures.ok;
  cause = c.stat-stat.ensures.cause;
}

at_path : (g : given.Over) (c : After-by_stat-entry g) → c.by_stat-entry.result.path ≡ c.args.path
at_path g c = ap (λ e. e.path) c.by_stat-entry.ensures ∙ stat_at c.args.path c.stat-stat.result

is_plain : (g : given.Over) (c : After-is_listed g) → is_linked (by_stat c.args.path c.stat-stat.result) ≡ false
is_plain g c = ap is_linked (sym c.by_stat-entry.ensures) ∙ sym c.is_linked.ensures ∙ c.if-is_linked.false

is_of_link : (g : given.Over) (c : After-read_link-text g) → is_linked (by_stat c.args.path c.stat-stat.result) ≡ true
is_of_link g c = ap is_linked (sym c.by_stat-entry.ensures) ∙ sym c.is_linked.ensures ∙ c.if-is_linked.true

is_of_dir : (g : given.Over) (c : After-list-names g) → is_listed (by_stat c.args.path c.stat-stat.result) ≡ true
is_of_dir g c = ap is_listed (sym c.by_stat-entry.ensures) ∙ sym c.is_listed.ensures ∙ c.if-not-is_listed.false

-- what holds of the tree and of the path that a later call was given holds of those of the look
moved : (P : Option Files → List ℕ → Type 0) {t t' : Option Files} {p p' : List ℕ} → t ≡ t' → p ≡ p' → P t p → P t' p'
moved P {t} {t'} {p} {p'} same is h = subst (λ t. P t p') same (subst (P t) is h)

listing_of : (g : given.Over) (c : After-list-names g) → c.by_stat-entry.result.path ≡ c.args.path → IsListing (g.R.Tree.tree c.args.reader.now) c.args.path
    (g.R.Tree.count c.stat-stat.new.self) (g.R.Tree.count c.list-names.new.self) c.list-names.result
listing_of g c at =
    let l = c.list-names.ensures in
    moved (λ t p. IsListing t p (g.R.Tree.count c.stat-stat.new.self) (g.R.Tree.count c.list-names.new.self) c.list-names.result) c.stat-stat.ensures.same at
    (record { told = l.told; not_dir = l.not_dir; are = l.names; unnamed = l.unnamed; cause = l.cause; err = l.err })

reading_of : (g : given.Over) (c : After-read_link-text g) → c.by_stat-entry.result.path ≡ c.args.path → IsReading (g.R.Tree.tree c.args.reader.now)
    c.args.path (g.R.Tree.count c.stat-stat.new.self) (g.R.Tree.count c.read_link-text.new.self) c.read_link-text.result
reading_of g c at =
    let r = c.read_link-text.ensures in
    moved (λ t p. IsReading t p (g.R.Tree.count c.stat-stat.new.self) (g.R.Tree.count c.read_link-text.new.self) c.read_link-text.result)
    c.stat-stat.ensures.same at (record { told = r.told; not_link = r.not_link; cause = r.cause; count = r.count })

with_text : (g : given.Over) (c : In-Some g) → by_link (by_stat c.args.path c.stat-stat.result) c.read_link-text.result ≡ Some c.in-Some.entry
with_text g c = ap (λ e. by_link e c.read_link-text.result) (sym c.by_stat-entry.ensures) ∙ sym c.by_link.ensures ∙ c.in-Some.is

with_names : (g : given.Over) (c : In-Some-by_list g)
    → by_list (by_stat c.args.path c.stat-stat.result) c.list-names.result ≡ Some c.in-Some-by_list.looked
with_names g c = ap (λ e. by_list e c.list-names.result) (sym c.by_stat-entry.ensures) ∙ sym c.by_list.ensures ∙ c.in-Some-by_list.is

-- ---- the look

pub returns-then-not-is_listed-clause-look : goal.returns-then-not-is_listed-clause-look
returns-then-not-is_listed-clause-look g c =
    let at = goal.at.returns-then-not-is_listed-clause-look g c in
    let tree = g.R.Tree.tree c.args.reader.now in
    let old = g.R.Tree.count c.args.reader.now in
    let new = g.R.Tree.count c.stat-stat.new.self in
    let path = c.args.path in
    let answer = c.stat-stat.result in
    let none : is_listed (by_stat path answer) ≡ false = ap is_listed (sym c.by_stat-entry.ensures) ∙ sym c.is_listed.ensures ∙ c.if-not-is_listed.true in
    subst (λ e. IsLook tree path old new e c.make-then-not-is_listed.result) (sym c.by_stat-entry.ensures)
    (subst (IsLook tree path old new (by_stat path answer)) (sym c.make-then-not-is_listed.ensures)
    (stat_alone tree path old new answer (stat_of g at.After-stat-stat) none (is_plain g at.After-is_listed)))

pub returns-in-Some-by_list-clause-look : goal.returns-in-Some-by_list-clause-look
returns-in-Some-by_list-clause-look g c =
    let at = goal.at.returns-in-Some-by_list-clause-look g c in
    let looks = IsLook (g.R.Tree.tree c.args.reader.now) c.args.path (g.R.Tree.count c.args.reader.now) (g.R.Tree.count c.list-names.new.self) in
    subst (λ o. IfSome o (λ r. looks r.0 r.1)) (with_names g at.In-Some-by_list)
    (stat_and_list _ _ _ _ _ _ _ (stat_of g at.After-stat-stat) (listing_of g at.After-list-names (at_path g at.After-by_stat-entry))
    (is_of_dir g at.After-list-names))

pub returns-in-Some-clause-look : goal.returns-in-Some-clause-look
returns-in-Some-clause-look g c =
    let at = goal.at.returns-in-Some-clause-look g c in
    let looks = IsLook (g.R.Tree.tree c.args.reader.now) c.args.path (g.R.Tree.count c.args.reader.now) (g.R.Tree.count c.read_link-text.new.self) in
    subst (λ (l : Listing). looks c.in-Some.entry l) (sym c.make.ensures) (subst (λ o. IfSome o (λ e. looks e ([], 0, 0))) (with_text g at.In-Some)
    (stat_and_link _ _ _ _ _ _ _ (stat_of g at.After-stat-stat) (reading_of g at.After-read_link-text (at_path g at.After-by_stat-entry))
    (is_of_link g at.After-read_link-text)))

-- ---- the answers

pub returns-then-not-is_listed-clause-answered : goal.returns-then-not-is_listed-clause-answered
returns-then-not-is_listed-clause-answered g c =
    let at = goal.at.returns-then-not-is_listed-clause-answered g c in
    subst (IsAnswered g.R.Tree.gives) (sym c.by_stat-entry.ensures)
    (by_stat_alone g.R.Tree.gives c.args.reader.now c.stat-stat.new.self c.args.path c.stat-stat.result c.stat-stat.ensures.given
    (is_plain g at.After-is_listed))

pub returns-in-Some-by_list-clause-answered : goal.returns-in-Some-by_list-clause-answered
returns-in-Some-by_list-clause-answered g c =
    let at = goal.at.returns-in-Some-by_list-clause-answered g c in
    let gives = g.R.Tree.gives in
    let mid = c.stat-stat.new.self in
    let after = c.list-names.new.self in
    let names = c.list-names.result in
    let listed = subst (λ p. gives mid (asked.list p names) after) (at_path g at.After-by_stat-entry) c.list-names.ensures.given in
    subst (λ o. IfSome o (λ r. IsAnswered gives r.0)) (with_names g at.In-Some-by_list)
    (by_stat_and_list gives c.args.reader.now mid after c.args.path c.stat-stat.result names c.stat-stat.ensures.given listed
    (is_of_dir g at.After-list-names))

pub returns-in-Some-clause-answered : goal.returns-in-Some-clause-answered
returns-in-Some-clause-answered g c =
    let at = goal.at.returns-in-Some-clause-answered g c in
    let gives = g.R.Tree.gives in
    let mid = c.stat-stat.new.self in
    let after = c.read_link-text.new.self in
    let text = c.read_link-text.result in
    let read = subst (λ p. gives mid (asked.read_link p text) after) (at_path g at.After-by_stat-entry) c.read_link-text.ensures.given in
    subst (λ o. IfSome o (IsAnswered gives)) (with_text g at.In-Some)
    (by_stat_and_link gives c.args.reader.now mid after c.args.path c.stat-stat.result text c.stat-stat.ensures.given read
    (is_of_link g at.After-read_link-text))
