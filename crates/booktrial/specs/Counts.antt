-- What a call adds to the tally.
use Rattle.std.specs.Prelude.{ℕ, ◌+◌, ◌-◌, ◌^◌, min, Bool, true, cond, Ok, Err, Result, is_err}
use Rattle.book.specs.declared.fault.Fault.{Fault}
use Rattle.book.specs.declared.fault.Fault.TheVariants.{Range, Full, Unknown}
use Rattle.booktrial.specs.declared.call.Answer.{Answer}
use Rattle.booktrial.specs.declared.call.Call.{Call}
use Rattle.booktrial.specs.declared.call.Call.TheVariants.{Enter, Take, Remove, Find}
use Rattle.booktrial.specs.declared.tally.Count.{Count}
use Rattle.booktrial.specs.declared.tally.Faults.{Faults}
use Rattle.booktrial.specs.declared.tally.Tally.{Tally}

abbrev none_counted : Count
none_counted = record { calls = 0; refused = 0 }

abbrev pub no_calls : Tally
no_calls = record {
  enters = none_counted;
  takes = none_counted;
  removes = none_counted;
  finds = none_counted;
  faults = record { range = 0; full = 0; unknown = 0 };
}

-- a count that has reached its end stays there
abbrev pub one_more : ℕ → ℕ
one_more n = min (n + 1) (2 ^ 32 - 1)

abbrev pub counted : (refused : Bool) → Count → Count
counted refused c = record { calls = one_more c.calls; refused = cond refused (one_more c.refused) c.refused }

abbrev pub with_fault : Fault → Faults → Faults
with_fault Range f = record f { range = one_more f.range }
with_fault Full f = record f { full = one_more f.full }
with_fault Unknown f = record f { unknown = one_more f.unknown }

abbrev pub faults_after : Result Answer Fault → Faults → Faults
faults_after (Ok a) f = f
faults_after (Err e) f = with_fault e f

abbrev pub tallied : Call → Result Answer Fault → Tally → Tally
tallied (Enter s o) r t = record t { enters = counted (is_err r) t.enters; faults = faults_after r t.faults }
tallied (Take s v) r t = record t { takes = counted (is_err r) t.takes; faults = faults_after r t.faults }
tallied (Remove n) r t = record t { removes = counted (is_err r) t.removes; faults = faults_after r t.faults }
tallied (Find n) r t = record t { finds = counted (is_err r) t.finds; faults = faults_after r t.faults }

abbrev pub take_refused : Tally → Tally
take_refused t = record t { takes = counted true t.takes; faults = with_fault Range t.faults }
