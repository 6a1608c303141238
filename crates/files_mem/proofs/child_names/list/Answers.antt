use Rattle.files_mem.proofs.Prelude.{◌≡◌, ◌++◌, ◌∷◌, [], false, true, nat_eq, refl, ap, ◌∙◌, sym, starts_with, front, is_one_name}
use Rattle.files_mem.proofs.Listed.{Listable, names_are, names_long, reading_begins, reading_other, reading_child, reading_shorter, reading_stops, reading_ends}
use Rattle.files_mem.proofs.child_names.list.Goals as goal
use Rattle.files_mem.proofs.child_names.list.Goals.{In-Some-strip}

pub returns-in_default : goal.returns-in_default
returns-in_default c =
    let long = rw c.in_default.is at c.in_ok-least.ensures.long in
    let made = c.make-listing.ensures in
    let p = c.args.path.now in
    let all = c.args.map.now.entries in (
      ap (λ l. l.0) made ∙ sym (names_long p all long c.requires.valid) ∙ sym (names_are p all c.len.ensures.ordered),
      ap (λ l. l.1) made,
      ap (λ l. l.2) made,
    )

pub loop-key-init : goal.loop-key-init
loop-key-init c =
    let low = rw c.in-Some.is at c.in_ok-least.ensures.found in
    let given : Listable c.args.path.now (front c.args.path.now ++ 1 ∷ []) c.args.map.now.entries = record {
      low = refl;
      sorted = c.from-entries.ensures.ordered;
      valid = c.requires.valid;
    } in
    let made = c.make-listing.ensures in
    record {
      given = given;
      reading = rw (c.from-entries.ensures.rest, low, ap (λ l. l.0) made) (reading_begins given);
      unnamed = ap (λ l. l.1) made;
      far = ap (λ l. l.2) made;
    }

pub returns-in_default-strip : goal.returns-in_default-strip
returns-in_default-strip c =
    let inv = c.loop-key.invariant in
    let off = rw c.in_default-strip.is at c.strip.ensures.off in
    let p = c.args.path.now in
    let text = c.deref.ensures ∙ c.in_ok-front.ensures in
    let off_front : starts_with nat_eq c.in-Some-next.key.now (front p) ≡ false =
    (λ i. starts_with nat_eq (sym c.text.ensures.text i) (sym text i)) ∙ off in (
      reading_stops inv.given inv.reading c.in-Some-next.ensures.steps off_front ∙ sym (names_are p c.args.map.now.entries c.len.ensures.ordered),
      inv.unnamed,
      inv.far,
    )

-- the key is the name behind the front of the path
is_behind : (c : In-Some-strip) → c.in-Some-next.key.now ≡ front c.args.path.now ++ c.in-Some-strip.name.now
is_behind c = sym c.text.ensures.text ∙ c.in-Some-strip.ensures.on ∙ ap (λ f. f ++ c.in-Some-strip.name.now) (c.deref.ensures ∙ c.in_ok-front.ensures)

pub loop-key-smaller-then-is_one_name : goal.loop-key-smaller-then-is_one_name
loop-key-smaller-then-is_one_name c =
    let inv = c.loop-key.invariant in
    reading_shorter inv.reading c.in-Some-next.ensures.steps inv.given.sorted c.in_ok-entries.ensures

pub loop-key-preserved-then-is_one_name : goal.loop-key-preserved-then-is_one_name
loop-key-preserved-then-is_one_name c =
    let inv = c.loop-key.invariant in
    let name = c.in-Some-strip.name.now in
    let is = is_behind (goal.at.loop-key-preserved-then-is_one_name c).In-Some-strip in
    let one : is_one_name name ≡ true = sym c.is_one_name.ensures ∙ c.if-is_one_name.true in
    let added = c.in_ok-add_name.ensures.ok in
    let before = c.loop-key.listing.0 in
    let listed : c.add_name.new.self.0 ≡ before ++ name ∷ [] = ap (λ l. l.0) added in
    record {
      given = inv.given;
      reading = rw listed (reading_child name inv.given inv.reading c.in-Some-next.ensures.steps is one c.in_ok-entries.ensures);
      unnamed = ap (λ l. l.1) added ∙ inv.unnamed;
      far = ap (λ l. l.2) added ∙ inv.far;
    }

pub loop-key-preserved : goal.loop-key-preserved
loop-key-preserved c =
    let inv = c.loop-key.invariant in
    let name = c.in-Some-strip.name.now in
    let is = is_behind (goal.at.loop-key-preserved c).In-Some-strip in
    let other : is_one_name name ≡ false = sym c.is_one_name.ensures ∙ c.if-is_one_name.false in
    record {
      given = inv.given;
      reading = reading_other name inv.reading c.in-Some-next.ensures.steps is other;
      unnamed = inv.unnamed;
      far = inv.far;
    }

pub returns : goal.returns
returns c =
    let inv = c.loop-key.invariant in (
      reading_ends inv.reading c.in_default-next.ensures.steps.0 ∙ sym (names_are c.args.path.now c.args.map.now.entries c.len.ensures.ordered),
      inv.unnamed,
      inv.far,
    )
