-- A purchase over three vats.
use Rattle.std.specs.Prelude.{◌≡◌, pos, List, [], ◌∷◌, Some, None, Ok, codes}
use Rattle.def_run.specs.World.{drain, Script, run}
use Rattle.def_run.specs.Text.{text}
use Rattle.def_kernel.specs.Reading.{read}
use Rattle.test_machine.specs.Endings.{lines}
use Rattle.def_kernel.specs.declared.node.Literal.TheVariants as literal
use Rattle.def_kernel.specs.declared.node.Node.{Node}
use Rattle.def_kernel.specs.declared.node.Node.TheVariants.{Lit, Noun, Set, Def, Call, Sequence, If, Escape, Try, Object, Method, Final, Var, Any}
use Rattle.test_machine.specs.Keys.{zeros}

-- var purse := 10; def payer { to pay(n) { if (n > purse) { throw("too dear") }; purse -= n; return n } }; def shop := broker <- find("tea"); def got := shop <- buy("tea", payer); when (got) -> { got } catch e { "failed: " + e }
unfoldable pub tree_buyer : List Node
tree_buyer =
    Sequence (1 ∷ 4 ∷ 29 ∷ 38 ∷ 48 ∷ [])
    ∷ Def 2 None 3
    ∷ Var (codes "purse") None
    ∷ Lit (literal.Int (pos 10))
    ∷ Object 5 [] (6 ∷ [])
    ∷ Final (codes "payer") None
    ∷ Method (codes "pay") (7 ∷ []) 8
    ∷ Final (codes "n") None
    ∷ Escape 9 10 None
    ∷ Final (codes "__return") None
    ∷ Sequence (11 ∷ 28 ∷ [])
    ∷ Sequence (12 ∷ 21 ∷ 25 ∷ [])
    ∷ If 13 17 20
    ∷ Call 14 (codes "greaterThan") (15 ∷ 16 ∷ [])
    ∷ Noun (codes "__comparer")
    ∷ Noun (codes "n")
    ∷ Noun (codes "purse")
    ∷ Call 18 (codes "run") (19 ∷ [])
    ∷ Noun (codes "throw")
    ∷ Lit (literal.Text (codes "too dear"))
    ∷ Noun (codes "null")
    ∷ Set (codes "purse") 22
    ∷ Call 23 (codes "subtract") (24 ∷ [])
    ∷ Noun (codes "purse")
    ∷ Noun (codes "n")
    ∷ Call 26 (codes "run") (27 ∷ [])
    ∷ Noun (codes "__return")
    ∷ Noun (codes "n")
    ∷ Noun (codes "null")
    ∷ Def 30 None 31
    ∷ Final (codes "shop") None
    ∷ Call 32 (codes "send") (33 ∷ 34 ∷ 35 ∷ [])
    ∷ Noun (codes "E")
    ∷ Noun (codes "broker")
    ∷ Lit (literal.Text (codes "find"))
    ∷ Call 36 (codes "run") (37 ∷ [])
    ∷ Noun (codes "__makeList")
    ∷ Lit (literal.Text (codes "tea"))
    ∷ Def 39 None 40
    ∷ Final (codes "got") None
    ∷ Call 41 (codes "send") (42 ∷ 43 ∷ 44 ∷ [])
    ∷ Noun (codes "E")
    ∷ Noun (codes "shop")
    ∷ Lit (literal.Text (codes "buy"))
    ∷ Call 45 (codes "run") (46 ∷ 47 ∷ [])
    ∷ Noun (codes "__makeList")
    ∷ Lit (literal.Text (codes "tea"))
    ∷ Noun (codes "payer")
    ∷ Call 49 (codes "whenResolved") (50 ∷ 51 ∷ [])
    ∷ Noun (codes "Ref")
    ∷ Noun (codes "got")
    ∷ Object 52 [] (53 ∷ [])
    ∷ Any None
    ∷ Method (codes "run") (54 ∷ []) 55
    ∷ Final (codes "__w") None
    ∷ Try 56 61 62
    ∷ Sequence (57 ∷ 60 ∷ [])
    ∷ Call 58 (codes "fulfillment") (59 ∷ [])
    ∷ Noun (codes "Ref")
    ∷ Noun (codes "__w")
    ∷ Noun (codes "got")
    ∷ Final (codes "e") None
    ∷ Call 63 (codes "add") (64 ∷ [])
    ∷ Lit (literal.Text (codes "failed: "))
    ∷ Noun (codes "e")
    ∷ []

-- def desk { to find(item) { return seller } }
unfoldable pub tree_broker : List Node
tree_broker =
    Object 1 [] (2 ∷ [])
    ∷ Final (codes "desk") None
    ∷ Method (codes "find") (3 ∷ []) 4
    ∷ Final (codes "item") None
    ∷ Escape 5 6 None
    ∷ Final (codes "__return") None
    ∷ Sequence (7 ∷ 10 ∷ [])
    ∷ Call 8 (codes "run") (9 ∷ [])
    ∷ Noun (codes "__return")
    ∷ Noun (codes "seller")
    ∷ Noun (codes "null")
    ∷ []

-- def list implements DeepFrozen { to price(item) { if (item == "tea") { return 3 }; return 5 } }; def prices :DeepFrozen := list; def shop { to buy(item, payer) { def due := prices.price(item); return when (payer <- pay(due)) -> { "sold " + item } catch e { "no sale" } } }
unfoldable pub tree_seller : List Node
tree_seller =
    Sequence (1 ∷ 23 ∷ 27 ∷ [])
    ∷ Object 2 (3 ∷ []) (4 ∷ [])
    ∷ Final (codes "list") None
    ∷ Noun (codes "DeepFrozen")
    ∷ Method (codes "price") (5 ∷ []) 6
    ∷ Final (codes "item") None
    ∷ Escape 7 8 None
    ∷ Final (codes "__return") None
    ∷ Sequence (9 ∷ 22 ∷ [])
    ∷ Sequence (10 ∷ 19 ∷ [])
    ∷ If 11 15 18
    ∷ Call 12 (codes "sameEver") (13 ∷ 14 ∷ [])
    ∷ Noun (codes "__equalizer")
    ∷ Noun (codes "item")
    ∷ Lit (literal.Text (codes "tea"))
    ∷ Call 16 (codes "run") (17 ∷ [])
    ∷ Noun (codes "__return")
    ∷ Lit (literal.Int (pos 3))
    ∷ Noun (codes "null")
    ∷ Call 20 (codes "run") (21 ∷ [])
    ∷ Noun (codes "__return")
    ∷ Lit (literal.Int (pos 5))
    ∷ Noun (codes "null")
    ∷ Def 24 None 26
    ∷ Final (codes "prices") (Some 25)
    ∷ Noun (codes "DeepFrozen")
    ∷ Noun (codes "list")
    ∷ Object 28 [] (29 ∷ [])
    ∷ Final (codes "shop") None
    ∷ Method (codes "buy") (30 ∷ 31 ∷ []) 32
    ∷ Final (codes "item") None
    ∷ Final (codes "payer") None
    ∷ Escape 33 34 None
    ∷ Final (codes "__return") None
    ∷ Sequence (35 ∷ 66 ∷ [])
    ∷ Sequence (36 ∷ 41 ∷ [])
    ∷ Def 37 None 38
    ∷ Final (codes "due") None
    ∷ Call 39 (codes "price") (40 ∷ [])
    ∷ Noun (codes "prices")
    ∷ Noun (codes "item")
    ∷ Call 42 (codes "run") (43 ∷ [])
    ∷ Noun (codes "__return")
    ∷ Call 44 (codes "whenResolved") (45 ∷ 52 ∷ [])
    ∷ Noun (codes "Ref")
    ∷ Call 46 (codes "send") (47 ∷ 48 ∷ 49 ∷ [])
    ∷ Noun (codes "E")
    ∷ Noun (codes "payer")
    ∷ Lit (literal.Text (codes "pay"))
    ∷ Call 50 (codes "run") (51 ∷ [])
    ∷ Noun (codes "__makeList")
    ∷ Noun (codes "due")
    ∷ Object 53 [] (54 ∷ [])
    ∷ Any None
    ∷ Method (codes "run") (55 ∷ []) 56
    ∷ Final (codes "__w") None
    ∷ Try 57 64 65
    ∷ Sequence (58 ∷ 61 ∷ [])
    ∷ Call 59 (codes "fulfillment") (60 ∷ [])
    ∷ Noun (codes "Ref")
    ∷ Noun (codes "__w")
    ∷ Call 62 (codes "add") (63 ∷ [])
    ∷ Lit (literal.Text (codes "sold "))
    ∷ Noun (codes "item")
    ∷ Final (codes "e") None
    ∷ Lit (literal.Text (codes "no sale"))
    ∷ Noun (codes "null")
    ∷ []

unfoldable pub script : Script
script = record {
  key = zeros;
  fuel = 1000000;
  depth = 400;
  vats =
      record { name = codes "buyer"; knows = 1 ∷ []; tree = tree_buyer } ∷
      record { name = codes "broker"; knows = 2 ∷ []; tree = tree_broker } ∷
      record { name = codes "seller"; knows = []; tree = tree_seller } ∷
      [];
  schedule = drain 3 50;
}

abbrev pub Row19Holds : Type 0
Row19Holds = text script (run script) ≡ lines (
    codes "open buyer"
    ∷ codes "!0 slot buyer&0 10"
    ∷ codes "!0 made buyer.0 payer caps buyer&0"
    ∷ codes "!0 list buyer%0 \"tea\""
    ∷ codes "!0 send buyer/0 @broker find \"tea\" -> broker?buyer/0"
    ∷ codes "!0 list buyer%1 \"tea\" buyer.0"
    ∷ codes "!0 send buyer/1 broker?buyer/0 buy \"tea\" buyer.0 -> broker?buyer/1"
    ∷ codes "!0 made buyer.1 _ caps broker?buyer/1"
    ∷ codes "!0 when buyer/2 broker?buyer/1 buyer.1 -> buyer?buyer/2"
    ∷ codes "!0 done buyer?buyer/2"
    ∷ codes "wait @buyer buyer?buyer/2"
    ∷ codes "open broker"
    ∷ codes "!0 made broker.0 desk caps @seller"
    ∷ codes "!0 done broker.0"
    ∷ codes "settle @broker broker.0"
    ∷ codes "open seller"
    ∷ codes "!0 made seller.0 list stamps <DeepFrozen>"
    ∷ codes "!0 made seller.1 shop caps seller.0"
    ∷ codes "!0 done seller.1"
    ∷ codes "settle @seller seller.1"
    ∷ codes "1 idle"
    ∷ codes "2 idle"
    ∷ codes "3 idle"
    ∷ codes "4 carry buyer broker deliver buyer/0 @broker find \"tea\""
    ∷ codes "5 idle"
    ∷ codes "6 carry broker buyer settled @broker broker.0"
    ∷ codes "settle @broker broker.0"
    ∷ codes "7 idle"
    ∷ codes "8 idle"
    ∷ codes "9 carry seller broker settled @seller seller.1"
    ∷ codes "settle @seller seller.1"
    ∷ codes "10 idle"
    ∷ codes "11 turn broker"
    ∷ codes "!1 take buyer/0 broker.0 find \"tea\""
    ∷ codes "!1 ejector broker.1"
    ∷ codes "!1 call broker.1 run @seller"
    ∷ codes "!1 gone"
    ∷ codes "!1 got @seller"
    ∷ codes "!1 done @seller"
    ∷ codes "settle broker?buyer/0 seller.1"
    ∷ codes "12 idle"
    ∷ codes "13 carry buyer broker deliver buyer/1 broker?buyer/0 buy \"tea\" buyer.0"
    ∷ codes "wait broker?buyer/1 seller?buyer/1"
    ∷ codes "14 idle"
    ∷ codes "15 carry broker buyer elsewhere broker?buyer/0 seller"
    ∷ codes "view broker?buyer/0 seller^1"
    ∷ codes "16 carry broker seller deliver buyer/1 seller.1 buy \"tea\" buyer^0"
    ∷ codes "17 carry seller buyer ask buyer^0 broker"
    ∷ codes "18 idle"
    ∷ codes "19 idle"
    ∷ codes "20 idle"
    ∷ codes "21 turn seller"
    ∷ codes "!1 take buyer/1 seller.1 buy \"tea\" buyer^0"
    ∷ codes "!1 ejector seller.2"
    ∷ codes "!1 call seller.0 price \"tea\" as !2"
    ∷ codes "!2 ejector seller.3"
    ∷ codes "!2 call seller.3 run 3"
    ∷ codes "!2 gone"
    ∷ codes "!2 got 3"
    ∷ codes "!1 back 3"
    ∷ codes "!1 list seller%0 3"
    ∷ codes "!1 send seller/0 buyer^0 pay 3 -> buyer?seller/0"
    ∷ codes "!1 made seller.4 _ caps \"tea\""
    ∷ codes "!1 when seller/1 buyer?seller/0 seller.4 -> seller?seller/1"
    ∷ codes "!1 call seller.2 run seller?seller/1"
    ∷ codes "!1 gone"
    ∷ codes "!1 got seller?seller/1"
    ∷ codes "!1 done seller?seller/1"
    ∷ codes "wait seller?buyer/1 seller?seller/1"
    ∷ codes "22 carry buyer broker shorten broker?buyer/0 seller^1"
    ∷ codes "23 carry buyer seller ask seller^1 broker"
    ∷ codes "24 carry broker buyer open buyer^0 buyer.0"
    ∷ codes "settle buyer^0 buyer.0"
    ∷ codes "25 carry broker seller open seller^1 seller.1"
    ∷ codes "settle seller^1 seller.1"
    ∷ codes "26 carry seller buyer deliver seller/0 buyer^0 pay 3"
    ∷ codes "27 idle"
    ∷ codes "28 turn buyer"
    ∷ codes "!1 take seller/0 buyer.0 pay 3"
    ∷ codes "!1 ejector buyer.2"
    ∷ codes "!1 read buyer&0 10"
    ∷ codes "!1 read buyer&0 10"
    ∷ codes "!1 call 10 subtract 3"
    ∷ codes "!1 back 7"
    ∷ codes "!1 wrote buyer&0 7"
    ∷ codes "!1 call buyer.2 run 3"
    ∷ codes "!1 gone"
    ∷ codes "!1 got 3"
    ∷ codes "!1 done 3"
    ∷ codes "settle buyer?seller/0 3"
    ∷ codes "29 idle"
    ∷ codes "30 idle"
    ∷ codes "31 idle"
    ∷ codes "32 carry buyer seller settled buyer^0 buyer.0"
    ∷ codes "settle buyer^0 buyer.0"
    ∷ codes "33 idle"
    ∷ codes "34 idle"
    ∷ codes "35 carry seller buyer settled seller^1 seller.1"
    ∷ codes "settle seller^1 seller.1"
    ∷ codes "settle broker?buyer/0 seller.1"
    ∷ codes "36 idle"
    ∷ codes "37 idle"
    ∷ codes "38 idle"
    ∷ codes "39 idle"
    ∷ codes "40 idle"
    ∷ codes "41 carry buyer seller settled buyer?seller/0 3"
    ∷ codes "settle buyer?seller/0 3"
    ∷ codes "42 idle"
    ∷ codes "43 idle"
    ∷ codes "44 idle"
    ∷ codes "45 idle"
    ∷ codes "46 idle"
    ∷ codes "47 idle"
    ∷ codes "48 turn seller"
    ∷ codes "!3 take seller/1 seller.4 run buyer?seller/0"
    ∷ codes "!3 call \"sold \" add \"tea\""
    ∷ codes "!3 back \"sold tea\""
    ∷ codes "!3 done \"sold tea\""
    ∷ codes "settle seller?seller/1 \"sold tea\""
    ∷ codes "settle seller?buyer/1 \"sold tea\""
    ∷ codes "49 idle"
    ∷ codes "50 idle"
    ∷ codes "51 idle"
    ∷ codes "52 idle"
    ∷ codes "53 idle"
    ∷ codes "54 carry seller broker settled seller?buyer/1 \"sold tea\""
    ∷ codes "settle seller?buyer/1 \"sold tea\""
    ∷ codes "settle broker?buyer/1 \"sold tea\""
    ∷ codes "55 idle"
    ∷ codes "56 idle"
    ∷ codes "57 idle"
    ∷ codes "58 idle"
    ∷ codes "59 idle"
    ∷ codes "60 carry broker buyer settled broker?buyer/1 \"sold tea\""
    ∷ codes "settle broker?buyer/1 \"sold tea\""
    ∷ codes "61 idle"
    ∷ codes "62 idle"
    ∷ codes "63 idle"
    ∷ codes "64 turn buyer"
    ∷ codes "!2 take buyer/2 buyer.1 run broker?buyer/1"
    ∷ codes "!2 done broker?buyer/1"
    ∷ codes "settle buyer?buyer/2 \"sold tea\""
    ∷ codes "settle @buyer \"sold tea\""
    ∷ codes "65 idle"
    ∷ codes "66 idle"
    ∷ codes "67 idle"
    ∷ codes "68 idle"
    ∷ codes "69 idle"
    ∷ codes "70 idle"
    ∷ codes "71 idle"
    ∷ codes "72 idle"
    ∷ codes "73 idle"
    ∷ codes "74 idle"
    ∷ codes "75 idle"
    ∷ codes "76 idle"
    ∷ codes "77 idle"
    ∷ codes "78 idle"
    ∷ codes "79 idle"
    ∷ codes "80 idle"
    ∷ codes "81 idle"
    ∷ codes "82 idle"
    ∷ codes "83 idle"
    ∷ codes "84 idle"
    ∷ codes "85 idle"
    ∷ codes "86 idle"
    ∷ codes "87 idle"
    ∷ codes "88 idle"
    ∷ codes "89 idle"
    ∷ codes "90 idle"
    ∷ codes "91 idle"
    ∷ codes "92 idle"
    ∷ codes "93 idle"
    ∷ codes "94 idle"
    ∷ codes "95 idle"
    ∷ codes "96 idle"
    ∷ codes "97 idle"
    ∷ codes "98 idle"
    ∷ codes "99 idle"
    ∷ codes "100 idle"
    ∷ codes "101 idle"
    ∷ codes "102 idle"
    ∷ codes "103 idle"
    ∷ codes "104 idle"
    ∷ codes "105 idle"
    ∷ codes "106 idle"
    ∷ codes "107 idle"
    ∷ codes "108 idle"
    ∷ codes "109 idle"
    ∷ codes "110 idle"
    ∷ codes "111 idle"
    ∷ codes "112 idle"
    ∷ codes "113 idle"
    ∷ codes "114 idle"
    ∷ codes "115 idle"
    ∷ codes "116 idle"
    ∷ codes "117 idle"
    ∷ codes "118 idle"
    ∷ codes "119 idle"
    ∷ codes "120 idle"
    ∷ codes "121 idle"
    ∷ codes "122 idle"
    ∷ codes "123 idle"
    ∷ codes "124 idle"
    ∷ codes "125 idle"
    ∷ codes "126 idle"
    ∷ codes "127 idle"
    ∷ codes "128 idle"
    ∷ codes "129 idle"
    ∷ codes "130 idle"
    ∷ codes "131 idle"
    ∷ codes "132 idle"
    ∷ codes "133 idle"
    ∷ codes "134 idle"
    ∷ codes "135 idle"
    ∷ codes "136 idle"
    ∷ codes "137 idle"
    ∷ codes "138 idle"
    ∷ codes "139 idle"
    ∷ codes "140 idle"
    ∷ codes "141 idle"
    ∷ codes "142 idle"
    ∷ codes "143 idle"
    ∷ codes "144 idle"
    ∷ codes "145 idle"
    ∷ codes "146 idle"
    ∷ codes "147 idle"
    ∷ codes "148 idle"
    ∷ codes "149 idle"
    ∷ codes "150 idle"
    ∷ codes "151 idle"
    ∷ codes "152 idle"
    ∷ codes "153 idle"
    ∷ codes "154 idle"
    ∷ codes "155 idle"
    ∷ codes "156 idle"
    ∷ codes "157 idle"
    ∷ codes "158 idle"
    ∷ codes "159 idle"
    ∷ codes "160 idle"
    ∷ codes "161 idle"
    ∷ codes "162 idle"
    ∷ codes "163 idle"
    ∷ codes "164 idle"
    ∷ codes "165 idle"
    ∷ codes "166 idle"
    ∷ codes "167 idle"
    ∷ codes "168 idle"
    ∷ codes "169 idle"
    ∷ codes "170 idle"
    ∷ codes "171 idle"
    ∷ codes "172 idle"
    ∷ codes "173 idle"
    ∷ codes "174 idle"
    ∷ codes "175 idle"
    ∷ codes "176 idle"
    ∷ codes "177 idle"
    ∷ codes "178 idle"
    ∷ codes "179 idle"
    ∷ codes "180 idle"
    ∷ codes "181 idle"
    ∷ codes "182 idle"
    ∷ codes "183 idle"
    ∷ codes "184 idle"
    ∷ codes "185 idle"
    ∷ codes "186 idle"
    ∷ codes "187 idle"
    ∷ codes "188 idle"
    ∷ codes "189 idle"
    ∷ codes "190 idle"
    ∷ codes "191 idle"
    ∷ codes "192 idle"
    ∷ codes "193 idle"
    ∷ codes "194 idle"
    ∷ codes "195 idle"
    ∷ codes "196 idle"
    ∷ codes "197 idle"
    ∷ codes "198 idle"
    ∷ codes "199 idle"
    ∷ codes "200 idle"
    ∷ codes "201 idle"
    ∷ codes "202 idle"
    ∷ codes "203 idle"
    ∷ codes "204 idle"
    ∷ codes "205 idle"
    ∷ codes "206 idle"
    ∷ codes "207 idle"
    ∷ codes "208 idle"
    ∷ codes "209 idle"
    ∷ codes "210 idle"
    ∷ codes "211 idle"
    ∷ codes "212 idle"
    ∷ codes "213 idle"
    ∷ codes "214 idle"
    ∷ codes "215 idle"
    ∷ codes "216 idle"
    ∷ codes "217 idle"
    ∷ codes "218 idle"
    ∷ codes "219 idle"
    ∷ codes "220 idle"
    ∷ codes "221 idle"
    ∷ codes "222 idle"
    ∷ codes "223 idle"
    ∷ codes "224 idle"
    ∷ codes "225 idle"
    ∷ codes "226 idle"
    ∷ codes "227 idle"
    ∷ codes "228 idle"
    ∷ codes "229 idle"
    ∷ codes "230 idle"
    ∷ codes "231 idle"
    ∷ codes "232 idle"
    ∷ codes "233 idle"
    ∷ codes "234 idle"
    ∷ codes "235 idle"
    ∷ codes "236 idle"
    ∷ codes "237 idle"
    ∷ codes "238 idle"
    ∷ codes "239 idle"
    ∷ codes "240 idle"
    ∷ codes "241 idle"
    ∷ codes "242 idle"
    ∷ codes "243 idle"
    ∷ codes "244 idle"
    ∷ codes "245 idle"
    ∷ codes "246 idle"
    ∷ codes "247 idle"
    ∷ codes "248 idle"
    ∷ codes "249 idle"
    ∷ codes "250 idle"
    ∷ codes "251 idle"
    ∷ codes "252 idle"
    ∷ codes "253 idle"
    ∷ codes "254 idle"
    ∷ codes "255 idle"
    ∷ codes "256 idle"
    ∷ codes "257 idle"
    ∷ codes "258 idle"
    ∷ codes "259 idle"
    ∷ codes "260 idle"
    ∷ codes "261 idle"
    ∷ codes "262 idle"
    ∷ codes "263 idle"
    ∷ codes "264 idle"
    ∷ codes "265 idle"
    ∷ codes "266 idle"
    ∷ codes "267 idle"
    ∷ codes "268 idle"
    ∷ codes "269 idle"
    ∷ codes "270 idle"
    ∷ codes "271 idle"
    ∷ codes "272 idle"
    ∷ codes "273 idle"
    ∷ codes "274 idle"
    ∷ codes "275 idle"
    ∷ codes "276 idle"
    ∷ codes "277 idle"
    ∷ codes "278 idle"
    ∷ codes "279 idle"
    ∷ codes "280 idle"
    ∷ codes "281 idle"
    ∷ codes "282 idle"
    ∷ codes "283 idle"
    ∷ codes "284 idle"
    ∷ codes "285 idle"
    ∷ codes "286 idle"
    ∷ codes "287 idle"
    ∷ codes "288 idle"
    ∷ codes "289 idle"
    ∷ codes "290 idle"
    ∷ codes "291 idle"
    ∷ codes "292 idle"
    ∷ codes "293 idle"
    ∷ codes "294 idle"
    ∷ codes "295 idle"
    ∷ codes "296 idle"
    ∷ codes "297 idle"
    ∷ codes "298 idle"
    ∷ codes "299 idle"
    ∷ codes "300 idle"
    ∷ codes "301 idle"
    ∷ codes "302 idle"
    ∷ codes "303 idle"
    ∷ codes "304 idle"
    ∷ codes "305 idle"
    ∷ codes "306 idle"
    ∷ codes "307 idle"
    ∷ codes "308 idle"
    ∷ codes "309 idle"
    ∷ codes "310 idle"
    ∷ codes "311 idle"
    ∷ codes "312 idle"
    ∷ codes "313 idle"
    ∷ codes "314 idle"
    ∷ codes "315 idle"
    ∷ codes "316 idle"
    ∷ codes "317 idle"
    ∷ codes "318 idle"
    ∷ codes "319 idle"
    ∷ codes "320 idle"
    ∷ codes "321 idle"
    ∷ codes "322 idle"
    ∷ codes "323 idle"
    ∷ codes "324 idle"
    ∷ codes "325 idle"
    ∷ codes "326 idle"
    ∷ codes "327 idle"
    ∷ codes "328 idle"
    ∷ codes "329 idle"
    ∷ codes "330 idle"
    ∷ codes "331 idle"
    ∷ codes "332 idle"
    ∷ codes "333 idle"
    ∷ codes "334 idle"
    ∷ codes "335 idle"
    ∷ codes "336 idle"
    ∷ codes "337 idle"
    ∷ codes "338 idle"
    ∷ codes "339 idle"
    ∷ codes "340 idle"
    ∷ codes "341 idle"
    ∷ codes "342 idle"
    ∷ codes "343 idle"
    ∷ codes "344 idle"
    ∷ codes "345 idle"
    ∷ codes "346 idle"
    ∷ codes "347 idle"
    ∷ codes "348 idle"
    ∷ codes "349 idle"
    ∷ codes "350 idle"
    ∷ codes "351 idle"
    ∷ codes "352 idle"
    ∷ codes "353 idle"
    ∷ codes "354 idle"
    ∷ codes "355 idle"
    ∷ codes "356 idle"
    ∷ codes "357 idle"
    ∷ codes "358 idle"
    ∷ codes "359 idle"
    ∷ codes "360 idle"
    ∷ codes "361 idle"
    ∷ codes "362 idle"
    ∷ codes "363 idle"
    ∷ codes "364 idle"
    ∷ codes "365 idle"
    ∷ codes "366 idle"
    ∷ codes "367 idle"
    ∷ codes "368 idle"
    ∷ codes "369 idle"
    ∷ codes "370 idle"
    ∷ codes "371 idle"
    ∷ codes "372 idle"
    ∷ codes "373 idle"
    ∷ codes "374 idle"
    ∷ codes "375 idle"
    ∷ codes "376 idle"
    ∷ codes "377 idle"
    ∷ codes "378 idle"
    ∷ codes "379 idle"
    ∷ codes "380 idle"
    ∷ codes "381 idle"
    ∷ codes "382 idle"
    ∷ codes "383 idle"
    ∷ codes "384 idle"
    ∷ codes "385 idle"
    ∷ codes "386 idle"
    ∷ codes "387 idle"
    ∷ codes "388 idle"
    ∷ codes "389 idle"
    ∷ codes "390 idle"
    ∷ codes "391 idle"
    ∷ codes "392 idle"
    ∷ codes "393 idle"
    ∷ codes "394 idle"
    ∷ codes "395 idle"
    ∷ codes "396 idle"
    ∷ codes "397 idle"
    ∷ codes "398 idle"
    ∷ codes "399 idle"
    ∷ codes "400 idle"
    ∷ codes "401 idle"
    ∷ codes "402 idle"
    ∷ codes "403 idle"
    ∷ codes "404 idle"
    ∷ codes "405 idle"
    ∷ codes "406 idle"
    ∷ codes "407 idle"
    ∷ codes "408 idle"
    ∷ codes "409 idle"
    ∷ codes "410 idle"
    ∷ codes "411 idle"
    ∷ codes "412 idle"
    ∷ codes "413 idle"
    ∷ codes "414 idle"
    ∷ codes "415 idle"
    ∷ codes "416 idle"
    ∷ codes "417 idle"
    ∷ codes "418 idle"
    ∷ codes "419 idle"
    ∷ codes "420 idle"
    ∷ codes "421 idle"
    ∷ codes "422 idle"
    ∷ codes "423 idle"
    ∷ codes "424 idle"
    ∷ codes "425 idle"
    ∷ codes "426 idle"
    ∷ codes "427 idle"
    ∷ codes "428 idle"
    ∷ codes "429 idle"
    ∷ codes "430 idle"
    ∷ codes "431 idle"
    ∷ codes "432 idle"
    ∷ codes "433 idle"
    ∷ codes "434 idle"
    ∷ codes "435 idle"
    ∷ codes "436 idle"
    ∷ codes "437 idle"
    ∷ codes "438 idle"
    ∷ codes "439 idle"
    ∷ codes "440 idle"
    ∷ codes "441 idle"
    ∷ codes "442 idle"
    ∷ codes "443 idle"
    ∷ codes "444 idle"
    ∷ codes "445 idle"
    ∷ codes "446 idle"
    ∷ codes "447 idle"
    ∷ codes "448 idle"
    ∷ codes "449 idle"
    ∷ codes "450 idle"
    ∷ codes "end"
    ∷ [])

-- the trees are those of these forms
abbrev pub Row19Reads : Type 0
Row19Reads =
    (read (codes "(seq (def (var purse) (lit 10)) (object (final payer) () (method pay ((final n)) (escape (final __return) (seq (seq (if (call (noun __comparer) greaterThan (noun n) (noun purse)) (call (noun throw) run (lit \"too dear\")) (noun null)) (set purse (call (noun purse) subtract (noun n))) (call (noun __return) run (noun n))) (noun null))))) (def (final shop) (call (noun E) send (noun broker) (lit \"find\") (call (noun __makeList) run (lit \"tea\")))) (def (final got) (call (noun E) send (noun shop) (lit \"buy\") (call (noun __makeList) run (lit \"tea\") (noun payer)))) (call (noun Ref) whenResolved (noun got) (object (any) () (method run ((final __w)) (try (seq (call (noun Ref) fulfillment (noun __w)) (noun got)) (final e) (call (lit \"failed: \") add (noun e)))))))") ≡ Ok tree_buyer)
    × (read (codes "(object (final desk) () (method find ((final item)) (escape (final __return) (seq (call (noun __return) run (noun seller)) (noun null)))))") ≡ Ok tree_broker)
    × (read (codes "(seq (object (final list) ((noun DeepFrozen)) (method price ((final item)) (escape (final __return) (seq (seq (if (call (noun __equalizer) sameEver (noun item) (lit \"tea\")) (call (noun __return) run (lit 3)) (noun null)) (call (noun __return) run (lit 5))) (noun null))))) (def (final prices (noun DeepFrozen)) (noun list)) (object (final shop) () (method buy ((final item) (final payer)) (escape (final __return) (seq (seq (def (final due) (call (noun prices) price (noun item))) (call (noun __return) run (call (noun Ref) whenResolved (call (noun E) send (noun payer) (lit \"pay\") (call (noun __makeList) run (noun due))) (object (any) () (method run ((final __w)) (try (seq (call (noun Ref) fulfillment (noun __w)) (call (lit \"sold \") add (noun item))) (final e) (lit \"no sale\"))))))) (noun null))))))") ≡ Ok tree_seller)

-- opens the definitions of this file
unfoldable pub opened_row19 : Unit {0}
unfolding tree_buyer tree_broker tree_seller script
opened_row19 = tt
