-- What was asked and answered on the way.
use Rattle.outside.proofs.Prelude.{◌≡◌, ℕ, ◌+◌, Bool, List, ◌∷◌, length, take, drop, refl, sym, subst, inl, inr, Result, Ok, Err, IfErr, OnOk, parent_of, Asks}
use Rattle.outside.proofs.Prelude.{Writes, over_told, place_told, LookFound, LookStopped, ReadFront, Cleared, WroteFront, SaveEnded, Failed, Stat, SaveError}
use Rattle.std.specs.Prelude.{Option}
use Rattle.outside.specs.Asked as asked

-- a look at the path over a file stops a save
pub over_stops : {S : Type 0} (gives : Asks S) (parent path : List ℕ) (answer : Result (Option Stat) Failed) (e : SaveError)
    (before after : S) → over_told answer ≡ Err e → gives before (asked.stat parent answer) after → LookStopped gives parent path e
over_stops gives parent path answer e before after is given = record {
  before = before;
  after = after;
  why = inl (record { answer = answer; given = given; is_meant = is });
}

-- a look at the path of a file stops a save
pub place_stops : {S : Type 0} (gives : Asks S) (parent path : List ℕ) (answer : Result (Option Stat) Failed) (r : Result Bool SaveError)
    (before after : S) → r ≡ place_told answer → gives before (asked.stat path answer) after → IfErr r (LookStopped gives parent path)
place_stops gives parent path answer (Ok old) before after is given = tt
place_stops gives parent path answer (Err e) before after is given = record {
  before = before;
  after = after;
  why = inr (record { answer = answer; given = given; is_meant = sym is });
}

-- one more piece was read
pub read_on : {S : Type 0} (gives : Asks S) (path : List ℕ) (at n : ℕ) (before mid after : S) → ReadFront gives path at before mid →
    gives mid (asked.read path at (Ok n)) after → ReadFront gives path (at + n) before after
read_on gives path at n before mid after front given = record { pieces = n ∷ front.pieces; read = (at, mid, refl, front.read, given) }

-- one more piece was written
pub wrote_on : {S : Type 0} (gives : Writes S) (path bytes piece : List ℕ) (at n : ℕ)
    (before mid after : S) → piece ≡ take n (drop at bytes) → WroteFront gives path bytes at before mid →
    gives mid path (asked.write_at at piece) (Ok tt) after → WroteFront gives path bytes (at + n) before after
wrote_on gives path bytes piece at n before mid after is front given =
    let here = subst (λ x. gives mid path (asked.write_at at x) (Ok tt) after) is given in
    record { pieces = n ∷ front.pieces; written = (at, mid, refl, front.written, here) }

-- all the steps of a save
pub saved_so : {R S : Type 0} (asks : Asks R) (gives : Writes S)
    (path parent bytes : List ℕ) (old : Bool) (r : Result (Unit {0}) SaveError) (before free made after : S) → parent ≡ parent_of path →
    LookFound asks parent path old → Cleared gives path old before free → gives free path asked.make_file (Ok tt) made →
    OnOk r (WroteFront gives path bytes (length bytes) made after) → OnOk r (SaveEnded asks gives path bytes after)
saved_so asks gives path parent bytes old (Ok x) before free made after over looked cleared is_made written = record {
  old = old;
  looked = subst (λ p. LookFound asks p path old) over looked;
  before = before;
  free = free;
  made = made;
  cleared = cleared;
  is_made = is_made;
  written = written;
}
saved_so asks gives path parent bytes old (Err e) before free made after over looked cleared is_made written = tt
