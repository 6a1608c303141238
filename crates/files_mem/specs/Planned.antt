-- Calls that are planned to fail, each at a path. Our own.
use Rattle.std.specs.Prelude.{◌≡◌, ℕ, Bool, List, ◌&&◌, nat_eq, refl, zero, suc}
use Rattle.std.specs.Coded.{Coded, code_by, coded×, coded_ℕ, coded_list}
use Rattle.std.specs.List.{list_any}
use Rattle.std.specs.Cmp.Lexicographic.{pointwise}
use Rattle.files_mem.specs.declared.plans.Call.{Call}
use Rattle.files_mem.specs.declared.plans.Call.TheVariants.{Stat, List as ListCall, Name, Read, MakeDir, MakeFile, Write, RemoveFile, RemoveDir}
use Rattle.files_mem.specs.declared.plans.Call.TheVariants.{ReadLink, MakeLink, Spans}

abbrev pub call_number : Call → ℕ
call_number Stat = 0
call_number ListCall = 1
call_number Name = 2
call_number Read = 3
call_number MakeDir = 4
call_number MakeFile = 5
call_number Write = 6
call_number RemoveFile = 7
call_number RemoveDir = 8
call_number ReadLink = 9
call_number MakeLink = 10
call_number Spans = 11

-- two are one call
abbrev pub is_call : Call → Call → Bool
is_call a b = nat_eq (call_number a) (call_number b)

-- the plan names this call at this path
abbrev pub is_planned : Call → List ℕ → List (Call × List ℕ) → Bool
is_planned call path planned = list_any (λ p. is_call p.0 call && pointwise nat_eq p.1 path) planned

abbrev pub from_number : ℕ → Call
from_number zero = Stat
from_number (suc zero) = ListCall
from_number (suc (suc zero)) = Name
from_number (suc (suc (suc zero))) = Read
from_number (suc (suc (suc (suc zero)))) = MakeDir
from_number (suc (suc (suc (suc (suc zero))))) = MakeFile
from_number (suc (suc (suc (suc (suc (suc zero)))))) = Write
from_number (suc (suc (suc (suc (suc (suc (suc zero))))))) = RemoveFile
from_number (suc (suc (suc (suc (suc (suc (suc (suc zero)))))))) = RemoveDir
from_number (suc (suc (suc (suc (suc (suc (suc (suc (suc zero))))))))) = ReadLink
from_number (suc (suc (suc (suc (suc (suc (suc (suc (suc (suc zero)))))))))) = MakeLink
from_number (suc (suc (suc (suc (suc (suc (suc (suc (suc (suc (suc n))))))))))) = Spans

abbrev pub same_call : (c : Call) → from_number (call_number c) ≡ c
same_call Stat = refl
same_call ListCall = refl
same_call Name = refl
same_call Read = refl
same_call MakeDir = refl
same_call MakeFile = refl
same_call Write = refl
same_call RemoveFile = refl
same_call RemoveDir = refl
same_call ReadLink = refl
same_call MakeLink = refl
same_call Spans = refl

abbrev pub planned_code : Coded (List (Call × List ℕ))
planned_code = coded_list (coded× (code_by ℕ coded_ℕ call_number from_number same_call) (coded_list coded_ℕ))
