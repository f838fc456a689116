-- The lines of a generated log.
use Rattle.std.specs.Prelude.{ℕ, ◌-◌, ◌/◌, ◌%◌, List, ◌++◌, length, replicate, codes, decimal}

-- a number below a thousand in three digits
abbrev pub three_digits : ℕ → List ℕ
three_digits number = replicate (3 - length (decimal number)) 48 ++ decimal number

-- seconds, a point and milliseconds
abbrev pub time_text : ℕ → List ℕ
time_text ms = decimal (ms / 1000) ++ (codes "." ++ three_digits (ms % 1000))

-- what names an event in each of its lines: its time and its serial number
abbrev pub stamp_text : ℕ → ℕ → List ℕ
stamp_text ms serial = time_text ms ++ (codes ":" ++ decimal serial)

-- a call that a process made, and what it was answered
abbrev pub call_line : List ℕ → ℕ → ℕ → ℕ → List ℕ
call_line stamp call pid answer =
    codes "type=SYSCALL msg=audit(" ++ (stamp ++ (codes "): arch=c000003e syscall=" ++ (decimal call
    ++ (codes " success=yes exit=" ++ (decimal answer
    ++ (codes " a0=0 a1=0 a2=0 a3=0 items=0 ppid=1 pid=" ++ (decimal pid ++ codes " comm=\"p\" exe=\"/p\"\n")))))))

-- the file that a call names, by its inode
abbrev pub file_line : List ℕ → ℕ → List ℕ
file_line stamp file =
    codes "type=PATH msg=audit(" ++ (stamp ++ (codes "): item=0 name=\"/f" ++ (decimal file
    ++ (codes "\" inode=" ++ (decimal file ++ codes " dev=08:01 nametype=NORMAL\n")))))

-- the end of an event
abbrev pub end_line : List ℕ → List ℕ
end_line stamp = codes "type=EOE msg=audit(" ++ (stamp ++ codes "): \n")
