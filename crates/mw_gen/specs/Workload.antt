-- The workload: n accounts, each of which sends one message to the next.
use Rattle.std.specs.Prelude.{ℕ, List, ◌++◌, codes}
use Rattle.std.specs.Fmt.{decimal}

-- the module, line by line
abbrev pub module_text : List ℕ
module_text = codes "omod GEN is\n"
    ++ codes "  pr NAT .\n"
    ++ codes "  subsort Nat < Oid .\n"
    ++ codes "  class Account | bal : Nat .\n"
    ++ codes "  msg move : Oid Oid Nat -> Msg .\n"
    ++ codes "  op accounts : Nat -> Configuration .\n"
    ++ codes "  op moves : Nat Nat -> Configuration .\n"
    ++ codes "  vars I J K N B D : Nat .\n"
    ++ codes "  eq accounts(0) = none .\n"
    ++ codes "  eq accounts(s I) = < I : Account | bal : 100 > accounts(I) .\n"
    ++ codes "  eq moves(0, N) = none .\n"
    ++ codes "  eq moves(s I, N) = move(I, s I rem N, s (I rem 9)) moves(I, N) .\n"
    ++ codes "  crl [move] : move(I, J, K) < I : Account | bal : B > < J : Account | bal : D >\n"
    ++ codes "    => < I : Account | bal : sd(B, K) > < J : Account | bal : (D + K) > if K <= B .\n"
    ++ codes "endom\n"

-- the command that runs n accounts
abbrev pub command_text : ℕ → List ℕ
command_text n = codes "rewrite accounts(" ++ decimal n ++ codes ") moves(" ++ decimal n ++ codes ", " ++ decimal n ++ codes ") .\n"

-- the module and the command
abbrev pub workload_text : ℕ → List ℕ
workload_text n = module_text ++ command_text n
