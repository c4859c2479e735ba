-- Why a session ended.
use Rattle.std.specs.Prelude.{⊤}
use Rattle.rpds_lines.specs.declared.fault.Fault.{Fault}
use Rattle.rpds_lines.specs.declared.fault.Fault.TheVariants.{Read, Write, NoMemory}

-- a read failed
abbrev pub IsOfRead : Fault → Type 0
IsOfRead (Read error) = ⊤
IsOfRead (Write error) = ⊥
IsOfRead NoMemory = ⊥
