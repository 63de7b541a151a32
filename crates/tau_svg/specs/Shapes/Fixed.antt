-- The lines that stand in each picture: the style sheet, the symbols and the legend (docs/formats.md, "Pictures").
use Rattle.std.specs.Prelude.{List, [], ◌∷◌, ◌++◌, codes}
use Rattle.tau_svg.specs.Markup.Lines.{Line, constant}

unfoldable pub style_1 : List Line
style_1 = constant (codes "<style type=\"text/css\">\n.tau .paper{fill:#fcfcfa}\n.tau text{font-family:ui-monospace,Menlo,Consolas,\"DejaVu Sans Mono\",monospace;font-size:11px;fill:#24292f}\n.tau .h{font-size:15px;font-weight:bold}\n.tau .b,.tau .tall{font-weight:bold}\n.tau .lane{font-weight:bold;font-size:12px;text-anchor:middle}\n.tau .num{fill:#6a737c;text-anchor:end}\n.tau .tiny{fill:#6a737c;text-anchor:end;font-size:8px}\n.tau .pt{fill:#6a737c;font-size:8px}\n.tau .minor{fill:#6a737c}") ∷ []

unfoldable pub style_2 : List Line
style_2 = constant (codes ".tau .gone{fill:#6a737c;text-decoration:line-through}\n.tau .good{fill:#005a8f;font-weight:bold}\n.tau .bad{fill:#a33400;font-weight:bold}\n.tau .warn{fill:#7a5200;font-weight:bold}\n.tau .said{fill:#8a2a6b;font-weight:bold}\n.tau .node{fill:#f1f2ee}\n.tau .guide{stroke:#d4d6d0;stroke-dasharray:1 3;fill:none}\n.tau .axis{stroke:#c3c8cd;fill:none}\n.tau .open{fill:#fff;stroke:#8793a0}\n.tau .kept{fill:#a9d4f5;stroke:#0072b2}") ∷ []

unfoldable pub style_3 : List Line
style_3 = constant (codes ".tau .unkept{fill:#ffe0a3;stroke:#d08700}\n.tau .fallen{fill:url(#tau-hatch);stroke:#a8a8a8}\n.tau .doomed,.tau .broken{fill:#fbe6db;stroke:#d55e00;stroke-dasharray:3 2}\n.tau .flat{stroke:none}\n.tau .open-s{fill:#5f6b77}\n.tau .kept-s{fill:#0072b2}\n.tau .unkept-s{fill:#d08700}\n.tau .fallen-s{fill:#8f8f8f}\n.tau .doomed-s,.tau .broken-s{fill:#d55e00}\n.tau .m{fill:none;stroke:#4a5560;stroke-width:1.2}") ∷ []

unfoldable pub style_4 : List Line
style_4 = constant (codes ".tau .m-take,.tau .m-new{marker-end:url(#tau-to)}\n.tau .m-new{stroke-dasharray:1 2}\n.tau .m-fall{stroke:#d55e00;marker-end:url(#tau-to-fall)}\n.tau .m-drop{stroke:#8a8a8a;stroke-dasharray:5 3;marker-end:url(#tau-to-end)}\n.tau .m-void{stroke:#8a8a8a;stroke-dasharray:1 3;marker-end:url(#tau-to-end)}\n.tau .m-lose{stroke:#d55e00;stroke-dasharray:2 3}\n.tau .m-fly{marker-end:url(#tau-to-fly)}\n.tau .long{stroke-width:.7;stroke-opacity:.55}\n.tau .m:hover{stroke-width:3;stroke-opacity:1}\n.tau .undone{opacity:.45}") ∷ []

unfoldable pub style_5 : List Line
style_5 = constant (codes ".tau .why{fill:none;stroke:#b5318a;stroke-width:2}\n.tau .link{stroke-dasharray:6 3;marker-end:url(#tau-to-why)}\n.tau-ink{fill:#24292f}\n.tau-inks{fill:none;stroke:#24292f}\n.tau-dim{fill:#6a737c;stroke:#fff;stroke-width:.8}\n.tau-dims{fill:none;stroke:#6a737c;stroke-width:1.5}\n.tau-hole{fill:#fff;stroke:#5a636b;stroke-width:1.5}\n.tau-act{fill:#24292f}\n.tau-ok{fill:#0068a8}\n.tau-oks{fill:#fff;stroke:#0068a8;stroke-width:2}") ∷ []

unfoldable pub style_6 : List Line
style_6 = constant (codes ".tau-amber{fill:#d08700}\n.tau-pause{fill:#f0e442;stroke:#7a5200}\n.tau-pauses{stroke:#24292f;stroke-width:2}\n.tau-red{fill:#d55e00}\n.tau-reds{fill:none;stroke:#d55e00;stroke-width:2.5}\n.tau-redh{fill:#fff;stroke:#d55e00;stroke-width:2}\n.tau-sign{fill:none;stroke:#fff;stroke-width:2}\n@media (prefers-color-scheme:dark){\n.tau .paper{fill:#15181c}\n.tau text,.tau-ink{fill:#e3e6e9}") ∷ []

unfoldable pub style_7 : List Line
style_7 = constant (codes ".tau .num,.tau .tiny,.tau .pt,.tau .minor,.tau .gone,.tau-dim{fill:#98a2ab}\n.tau-dim{stroke:#15181c}\n.tau .good{fill:#7cc4f5}\n.tau .bad{fill:#ff9a66}\n.tau .warn{fill:#e8b94a}\n.tau .said{fill:#f08fd0}\n.tau .node{fill:#1e2227}\n.tau .guide,.tau .axis{stroke:#3a4047}\n.tau .open{fill:#2c3239;stroke:#7d8894}\n.tau .kept{fill:#164a6e;stroke:#4aa8e0}") ∷ []

unfoldable pub style_8 : List Line
style_8 = constant (codes ".tau .unkept{fill:#5a4210}\n.tau .fallen{stroke:#6b7177}\n.tau .doomed,.tau .broken{fill:#4a2a1a}\n.tau .open-s{fill:#aab4be}\n.tau .kept-s{fill:#4aa8e0}\n.tau .m{stroke:#a9b3bc}\n.tau .m-fall,.tau .m-lose{stroke:#f0803c}\n.tau .m-drop,.tau .m-void,.tau-dims{stroke:#98a2ab}\n.tau-inks{stroke:#e3e6e9}\n.tau-hole,.tau-redh,.tau-oks{fill:#15181c}") ∷ []

unfoldable pub style_9 : List Line
style_9 = constant (codes ".tau-ok{fill:#2b8fd0}\n.tau-oks{stroke:#4aa8e0}\n.tau-hole{stroke:#c4ccd3}\n.tau-act{fill:#e3e6e9}\n.tau .why{stroke:#f06ac4}\n.tau-head{fill:#a9b3bc}\n.tau-hatch{fill:#2a2e33}\n.tau-hair{stroke:#5a6168}\n}\n</style>") ∷ []

-- the style sheet
abbrev pub style_lines : List Line
style_lines = style_1 ++ (style_2 ++ (style_3 ++ (style_4 ++ (style_5 ++ (style_6 ++ (style_7 ++ (style_8 ++ (style_9))))))))

unfoldable pub symbol_1 : List Line
symbol_1 = constant (codes "<defs>\n<pattern id=\"tau-hatch\" width=\"6\" height=\"6\" patternUnits=\"userSpaceOnUse\"><rect class=\"tau-hatch\" width=\"6\" height=\"6\" fill=\"#ececec\"/><path class=\"tau-hair\" d=\"M0 6L6 0\" stroke=\"#a8a8a8\"/></pattern>\n<marker id=\"tau-to\" markerUnits=\"userSpaceOnUse\" markerWidth=\"9\" markerHeight=\"8\" refX=\"8\" refY=\"4\" orient=\"auto\"><path class=\"tau-head\" d=\"M0 0L9 4L0 8Z\" fill=\"#4a5560\"/></marker>\n<marker id=\"tau-to-fall\" markerUnits=\"userSpaceOnUse\" markerWidth=\"9\" markerHeight=\"8\" refX=\"8\" refY=\"4\" orient=\"auto\"><path d=\"M0 0L9 4L0 8Z\" fill=\"#d55e00\"/></marker>\n<marker id=\"tau-to-end\" markerUnits=\"userSpaceOnUse\" markerWidth=\"8\" markerHeight=\"8\" refX=\"6\" refY=\"4\" orient=\"auto\"><path d=\"M6 0V8\" stroke=\"#8a8a8a\" stroke-width=\"2\"/></marker>\n<marker id=\"tau-to-fly\" markerUnits=\"userSpaceOnUse\" markerWidth=\"8\" markerHeight=\"8\" refX=\"4\" refY=\"4\" orient=\"auto\"><circle class=\"tau-hole\" cx=\"4\" cy=\"4\" r=\"3\"/></marker>\n<marker id=\"tau-to-why\" markerUnits=\"userSpaceOnUse\" markerWidth=\"12\" markerHeight=\"12\" refX=\"8\" refY=\"5\" orient=\"auto\"><path d=\"M0 0L10 5L0 10Z\" fill=\"#b5318a\"/></marker>\n<g id=\"tau-take\"><circle class=\"tau-ink\" r=\"4\"/></g>\n<g id=\"tau-drop\"><path class=\"tau-dims\" d=\"M-4 -4L4 4M4 -4L-4 4\"/></g>\n<g id=\"tau-fall\"><path class=\"tau-redh\" d=\"M-6 5L0 -6L6 5Z\"/></g>") ∷ []

unfoldable pub symbol_2 : List Line
symbol_2 = constant (codes "<g id=\"tau-void\"><circle class=\"tau-hole\" r=\"4\"/><path class=\"tau-dims\" d=\"M-3 3L3 -3\"/></g>\n<g id=\"tau-get\"><circle class=\"tau-dim\" r=\"2\"/></g>\n<g id=\"tau-set\"><rect class=\"tau-act\" x=\"-4\" y=\"-4\" width=\"8\" height=\"8\"/></g>\n<g id=\"tau-skip\"><rect class=\"tau-hole\" x=\"-3\" y=\"-3\" width=\"6\" height=\"6\"/></g>\n<g id=\"tau-send\"><circle class=\"tau-hole\" r=\"2.5\"/></g>\n<g id=\"tau-new\"><circle class=\"tau-hole\" r=\"5\"/><path class=\"tau-inks\" d=\"M-3 0H3M0 -3V3\"/></g>\n<g id=\"tau-stabilize\"><rect class=\"tau-act\" x=\"-9\" y=\"-2\" width=\"18\" height=\"4\"/></g>\n<g id=\"tau-ask\"><circle class=\"tau-dim\" r=\"2\"/></g>\n<g id=\"tau-kept\"><rect class=\"tau-ok\" x=\"-7\" y=\"-7\" width=\"14\" height=\"14\" rx=\"2\"/><path class=\"tau-sign\" d=\"M-4 0L-1 3L4 -3\"/></g>\n<g id=\"tau-unkept\"><rect class=\"tau-amber\" x=\"-7\" y=\"-7\" width=\"14\" height=\"14\" rx=\"2\"/><path class=\"tau-sign\" d=\"M-4 0H4\"/></g>") ∷ []

unfoldable pub symbol_3 : List Line
symbol_3 = constant (codes "<g id=\"tau-broken\"><rect class=\"tau-red\" x=\"-7\" y=\"-7\" width=\"14\" height=\"14\" rx=\"2\"/><path class=\"tau-sign\" d=\"M-4 -4L4 4M4 -4L-4 4\"/></g>\n<g id=\"tau-hold\"><circle class=\"tau-pause\" r=\"7\"/><path class=\"tau-pauses\" d=\"M-2 -3V3M2 -3V3\"/></g>\n<g id=\"tau-rollback\"><path class=\"tau-red\" d=\"M-6 5L0 -6L6 5Z\"/></g>\n<g id=\"tau-stay\"><path class=\"tau-hole\" d=\"M-5 4L0 -5L5 4Z\"/></g>\n<g id=\"tau-done\"><path class=\"tau-dims\" d=\"M-5 0H5\"/></g>\n<g id=\"tau-trap\"><circle class=\"tau-red\" r=\"6\"/><path class=\"tau-sign\" d=\"M0 -4V1M0 2.5V4.5\"/></g>\n<g id=\"tau-trap-stable\"><circle class=\"tau-hole\" r=\"6\"/><path class=\"tau-dims\" d=\"M0 -4V1M0 2.5V4.5\"/></g>\n<g id=\"tau-fail\"><path class=\"tau-reds\" d=\"M-6 -6L6 6M6 -6L-6 6\"/></g>\n<g id=\"tau-fail-stable\"><path class=\"tau-dims\" d=\"M-5 -5L5 5M5 -5L-5 5\"/></g>\n<g id=\"tau-lose\"><path class=\"tau-reds\" d=\"M-4 -4L4 4M4 -4L-4 4\"/></g>") ∷ []

unfoldable pub symbol_4 : List Line
symbol_4 = constant (codes "<g id=\"tau-end-kept\"><circle class=\"tau-ok\" r=\"5\"/></g>\n<g id=\"tau-end-first\"><circle class=\"tau-oks\" r=\"4\"/></g>\n<g id=\"tau-end-none\"><circle class=\"tau-dims\" r=\"4\" stroke-dasharray=\"2 2\"/></g>\n</defs>") ∷ []

-- the symbols
abbrev pub symbol_lines : List Line
symbol_lines = symbol_1 ++ (symbol_2 ++ (symbol_3 ++ (symbol_4)))

unfoldable pub legend_1 : List Line
legend_1 = constant (codes "<rect class=\"open\" x=\"-5\" y=\"-7\" width=\"10\" height=\"14\" rx=\"3\"/>\n<text class=\"minor\" x=\"12\" y=\"4\">volatile</text>\n<rect class=\"open\" x=\"77\" y=\"-7\" width=\"10\" height=\"14\" rx=\"3\"/>\n<rect class=\"open-s\" x=\"80\" y=\"-5\" width=\"4\" height=\"12\"/>\n<text class=\"minor\" x=\"94\" y=\"4\">stable</text>\n<rect class=\"kept\" x=\"145\" y=\"-7\" width=\"10\" height=\"14\" rx=\"3\"/>\n<text class=\"minor\" x=\"162\" y=\"4\">saved, may be kept</text>\n<rect class=\"unkept\" x=\"293\" y=\"-7\" width=\"10\" height=\"14\" rx=\"3\"/>\n<text class=\"minor\" x=\"310\" y=\"4\">saved, can't be kept</text>\n<rect class=\"fallen\" x=\"455\" y=\"-7\" width=\"10\" height=\"14\" rx=\"3\"/>") ∷ []

unfoldable pub legend_2 : List Line
legend_2 = constant (codes "<text class=\"minor\" x=\"472\" y=\"4\">rolled back</text>\n<rect class=\"doomed\" x=\"557\" y=\"-7\" width=\"10\" height=\"14\" rx=\"3\"/>\n<text class=\"minor\" x=\"574\" y=\"4\">rests on a fallen one</text>\n<use xlink:href=\"#tau-take\" x=\"0\" y=\"18\"/>\n<text class=\"minor\" x=\"12\" y=\"22\">take</text>\n<use xlink:href=\"#tau-get\" x=\"55\" y=\"18\"/>\n<text class=\"minor\" x=\"67\" y=\"22\">get, ask</text>\n<use xlink:href=\"#tau-set\" x=\"137\" y=\"18\"/>\n<text class=\"minor\" x=\"149\" y=\"22\">set</text>\n<use xlink:href=\"#tau-skip\" x=\"185\" y=\"18\"/>") ∷ []

unfoldable pub legend_3 : List Line
legend_3 = constant (codes "<text class=\"minor\" x=\"197\" y=\"22\">skip</text>\n<use xlink:href=\"#tau-send\" x=\"240\" y=\"18\"/>\n<text class=\"minor\" x=\"252\" y=\"22\">send</text>\n<use xlink:href=\"#tau-new\" x=\"295\" y=\"18\"/>\n<text class=\"minor\" x=\"307\" y=\"22\">new</text>\n<use xlink:href=\"#tau-stabilize\" x=\"343\" y=\"18\"/>\n<text class=\"minor\" x=\"357\" y=\"22\">stabilize</text>\n<use xlink:href=\"#tau-done\" x=\"433\" y=\"18\"/>\n<text class=\"minor\" x=\"445\" y=\"22\">done</text>\n<use xlink:href=\"#tau-stay\" x=\"488\" y=\"18\"/>") ∷ []

unfoldable pub legend_4 : List Line
legend_4 = constant (codes "<text class=\"minor\" x=\"500\" y=\"22\">stay</text>\n<use xlink:href=\"#tau-fail-stable\" x=\"543\" y=\"18\"/>\n<text class=\"minor\" x=\"555\" y=\"22\">fail, no harm</text>\n<use xlink:href=\"#tau-trap-stable\" x=\"658\" y=\"18\"/>\n<text class=\"minor\" x=\"670\" y=\"22\">trap, no harm</text>\n<use xlink:href=\"#tau-kept\" x=\"0\" y=\"36\"/>\n<text class=\"minor\" x=\"12\" y=\"40\">checkpoint</text>\n<use xlink:href=\"#tau-unkept\" x=\"95\" y=\"36\"/>\n<text class=\"minor\" x=\"107\" y=\"40\">not kept</text>\n<use xlink:href=\"#tau-broken\" x=\"177\" y=\"36\"/>") ∷ []

unfoldable pub legend_5 : List Line
legend_5 = constant (codes "<text class=\"minor\" x=\"189\" y=\"40\">not safe</text>\n<use xlink:href=\"#tau-hold\" x=\"259\" y=\"36\"/>\n<text class=\"minor\" x=\"271\" y=\"40\">hold</text>\n<use xlink:href=\"#tau-rollback\" x=\"314\" y=\"36\"/>\n<text class=\"minor\" x=\"326\" y=\"40\">rollback</text>\n<use xlink:href=\"#tau-fall\" x=\"396\" y=\"36\"/>\n<text class=\"minor\" x=\"408\" y=\"40\">fall</text>\n<use xlink:href=\"#tau-trap\" x=\"451\" y=\"36\"/>\n<text class=\"minor\" x=\"463\" y=\"40\">trap</text>\n<use xlink:href=\"#tau-fail\" x=\"506\" y=\"36\"/>") ∷ []

unfoldable pub legend_6 : List Line
legend_6 = constant (codes "<text class=\"minor\" x=\"518\" y=\"40\">fail</text>\n<use xlink:href=\"#tau-drop\" x=\"561\" y=\"36\"/>\n<text class=\"minor\" x=\"573\" y=\"40\">drop</text>\n<use xlink:href=\"#tau-void\" x=\"616\" y=\"36\"/>\n<text class=\"minor\" x=\"628\" y=\"40\">void</text>\n<path class=\"m m-take\" d=\"M-6 54H16\"/>\n<text class=\"minor\" x=\"28\" y=\"58\">taken</text>\n<path class=\"m m-fall\" d=\"M72 54H94\"/>\n<text class=\"minor\" x=\"106\" y=\"58\">forces a fall</text>\n<path class=\"m m-drop\" d=\"M203 54H225\"/>") ∷ []

unfoldable pub legend_7 : List Line
legend_7 = constant (codes "<text class=\"minor\" x=\"237\" y=\"58\">dropped</text>\n<path class=\"m m-void\" d=\"M294 54H316\"/>\n<text class=\"minor\" x=\"328\" y=\"58\">to an ended one</text>\n<path class=\"m m-lose\" d=\"M438 54H460\"/>\n<use xlink:href=\"#tau-lose\" x=\"462\" y=\"54\"/>\n<text class=\"minor\" x=\"472\" y=\"58\">lost</text>\n<path class=\"m m-fly\" d=\"M509 54H531\"/>\n<text class=\"minor\" x=\"543\" y=\"58\">in flight</text>\n<path class=\"m m-new\" d=\"M613 54H635\"/>\n<text class=\"minor\" x=\"647\" y=\"58\">creates</text>") ∷ []

-- the legend
abbrev pub legend_lines : List Line
legend_lines = legend_1 ++ (legend_2 ++ (legend_3 ++ (legend_4 ++ (legend_5 ++ (legend_6 ++ (legend_7))))))
